-- The notes of rows that a board runs.
use Rattle.std.proofs.Common.{◌≡◌, ◌<◌, ◌≤◌, ◌-◌, ◌+◌, ℕ, ℤ, suc, List, [], ◌∷◌, ◌++◌, map, length, nat_lt, refl, sym}
use Rattle.std.proofs.Common.{subst, ap, ◌∙◌, ⊎_elim, arith}
use Rattle.std.proofs.lemmas.Bool.{cases_eq, cases_lt, cond-true, cond-false, lt-ltb, le-ltb}
use Rattle.std.proofs.lemmas.List.{length-append, length-map}
use Rattle.std.specs.List.{All}
use Rattle.atomic_table.specs.Table.{State}
use Rattle.cs_cells.specs.{Meaning.Meaning, declared.footprint.Footprint.Footprint}
use Rattle.cs_graph.specs.Conflict.{Conflict}
use Rattle.cs_row.specs.{Cuts.AreRowsOf, Heard.HeardRow, Heard.heard_job, Laws.ConflictByRow, Laws.jobs_of}
use Rattle.cs_row.specs.Rows.{IsFree, IsRow, notes_in, row_at, row_foot}
use Rattle.cs_board.specs.{Plans.feet, Rule.Holds, Words.at}
use Rattle.cs_board.specs.{declared.view.Berth.Berth, declared.view.Plan.Plan}
use Rattle.cs_board.specs.declared.view.View.{View}
use Rattle.cs_board.proofs.{Allowed.status_is, Conflicts.past, Does.busy, Ran.done_once, Ran.earlier_done}
use Rattle.cs_desk.specs.Laws.{RunInTurn}

module _ {J : Type 0} where
  -- the row of a note is one of the rows
  here : (row : List J) (rows : List (List J)) (t : ℕ) → t < length row → row_at (row ∷ rows) t ≡ 0
  here row rows t l =
      cond-true (nat_lt t (length row)) 0 (suc (row_at rows (t - length row))) (lt-ltb t (length row) l)

  beyond : (row : List J) (rows : List (List J)) (t : ℕ) → length row ≤ t
      → row_at (row ∷ rows) t ≡ suc (row_at rows (t - length row))
  beyond row rows t l =
      cond-false (nat_lt t (length row)) 0 (suc (row_at rows (t - length row))) (le-ltb t (length row) l)

  row_within : (rows : List (List J)) (t : ℕ) → t < length (notes_in rows) → row_at rows t < length rows
  row_within [] t l = absurd (omega (arith, l))
  row_within (row ∷ rows) t l = ⊎_elim
      (λ (near : t < length row). let e : row_at (row ∷ rows) t ≡ 0 = here row rows t near in omega (arith, e))
      (λ (far : length row ≤ t).
      let long : length (row ++ notes_in rows) ≡ length row + length (notes_in rows) =
      length-append row (notes_in rows) in
      let less : t - length row < length (notes_in rows) = omega (arith, far, l, long) in
      let e : row_at (row ∷ rows) t ≡ suc (row_at rows (t - length row)) = beyond row rows t far in
      let r : row_at rows (t - length row) < length rows = row_within rows (t - length row) less in
      omega (arith, e, r))
      (cases_lt t (length row))

module _ {J : Type 0} (M : Meaning J) (shape : J → ℕ × ℕ) (gives : J → ℕ → ℤ) (most : ℕ) (notes : List J)
    (k : Plan (HeardRow J)) (s : State (Berth (HeardRow J)) (View (HeardRow J)))
    (by_row : (rs : List (List J)) (p t : ℕ) → All (IsRow M) rs → All (IsFree M) rs → p < t → ConflictByRow M rs p t)
    (rows : AreRowsOf M most notes (jobs_of k.jobs)) (h : Holds (heard_job M shape gives) k s) where
  abbrev R : Meaning (HeardRow J)
  R = heard_job M shape gives

  feet_of_rows : (rs : List (HeardRow J)) → map (row_foot M) (jobs_of rs) ≡ map R.foot rs
  feet_of_rows [] = refl
  feet_of_rows (r ∷ rs) = ap (λ (fs : List Footprint). row_foot M r.jobs ∷ fs) (feet_of_rows rs)

  -- two notes that conflict lie in rows that do
  rows_conflict : (p t : ℕ) → Conflict (map M.foot notes) p t
      → Conflict (feet R k) (row_at (jobs_of k.jobs) p) (row_at (jobs_of k.jobs) t)
  rows_conflict p t c =
      subst (λ (fs : List Footprint). Conflict fs (row_at (jobs_of k.jobs) p) (row_at (jobs_of k.jobs) t))
      (feet_of_rows k.jobs)
      ((by_row (jobs_of k.jobs) p t rows.are rows.free c.earlier).rows_do
      (subst (λ (l : List J). Conflict (map M.foot l) p t) (sym rows.whole) c))

  row_there : (t : ℕ) → t < length notes → row_at (jobs_of k.jobs) t < k.notes
  row_there t low =
      let in_rows : t < length (notes_in (jobs_of k.jobs)) =
      subst (λ (l : List J). t < length l) (sym rows.whole) low in
      let l : row_at (jobs_of k.jobs) t < length (jobs_of k.jobs) = row_within (jobs_of k.jobs) t in_rows in
      omega (arith, l, length-map k.jobs (λ (r : HeardRow J). r.jobs), h.plan.jobs)

  pub run_in_turn : RunInTurn M notes k s
  run_in_turn = record {
    earlier = λ i p t v d does c.
        let rc = rows_conflict p t c in (
          rc.earlier,
          earlier_done R k s h i v d (row_at (jobs_of k.jobs) p) does.seat does.doing
              (subst (λ (n : ℕ). Conflict (feet R k) (row_at (jobs_of k.jobs) p) n) (sym does.row) rc),
        );
    later = λ i t u v d does c.
        let rc = rows_conflict t u c in
        let q : ℕ = row_at (jobs_of k.jobs) u in
        let running : at h.parts.status d.note ≡ 2 =
        busy k h.parts.status s.views h.facts.doers i v d does.seat does.doing in (
          rc.earlier,
          status_is R k s h q (omega (arith, rc.within, length-map k.jobs R.foot, h.plan.jobs))
              ∙ ⊎_elim (λ (waits : at h.parts.status q ≡ 0). waits)
              (λ begun. absurd (let done : at h.parts.status (row_at (jobs_of k.jobs) t) ≡ 3 =
              past R k h.plan h.parts.status h.parts.watch h.facts.gates (row_at (jobs_of k.jobs) t) q rc begun in
              omega (arith, done, running, ap (at h.parts.status) does.row)))
              (cases_eq (at h.parts.status q) 0),
        );
    one_seat = λ i j t v w d e a b. (done_once R k s h).doing i j v w d e a.seat b.seat a.doing b.doing
        (a.row ∙ sym b.row);
    once = λ t low. (done_once R k s h).mine (row_at (jobs_of k.jobs) t) (row_there t low);
  }
