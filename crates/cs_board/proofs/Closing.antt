-- No note is lost, and the content of the board at the end is the result of the serial run.
use Rattle.std.proofs.lemmas.{Grind.common_steps, Bool.cases_Bool, Bool.cases_eq, Bool.and_right, List.length-map}
use Rattle.std.proofs.Common.{◌≡◌, ◌≢◌, ℕ, zero, suc, ◌+◌, ◌-◌, ◌<◌, ◌≤◌, ◌⊎◌, ⊎_elim, pos, List, [], ◌∷◌, ◌++◌, map}
use Rattle.std.proofs.Common.{length, get_or, take, drop, replicate, true, false, Some, None, refl, sym, ap, ◌∙◌, arith}
use Rattle.std.proofs.Common.{◌==◌, ◌&&◌, not, slice_get, ext_get_or, eq-eqb}
use Rattle.std.proofs.Math.Seq.{take-append_seam}
use Rattle.std.proofs.lemmas.Option.{same_Some, slice_get_within, slice_get-get_or}
use mathlib.Core.Option.{some, some-injective}
use lib.ListN.{get_elem?}
use Rattle.atomic_table.specs.Table.{State}
use Rattle.cs_cells.specs.{Cells.cell, Cells.signed, Cells.values, Meaning.Meaning, Meaning.Frames}
use Rattle.cs_cells.specs.Serial.{serial_cells, serial_jobs}
use Rattle.cs_cells.proofs.SerialRun.{before-all, length-before, job_at, length-serial_jobs}
use Rattle.cs_board.specs.Counts.{one, same, total, times, listed}
use Rattle.cs_board.specs.Ending.{IsLast, HasLast, AllDone, AllMine, IsSerial, IsOver, cells_in}
use Rattle.cs_board.specs.Facts.{has_done, turned_in, turned_on, done_writers, spot_on, spot_by, doing_on, does_note}
use Rattle.cs_board.specs.Facts.{closes_by, moves, owed, numbered, names, Waits, Kept, job_if}
use Rattle.cs_board.specs.Plans.{IsPlan, writes_at, before_at, area_count, places_written}
use Rattle.cs_board.specs.Rule.{Facts, Holds, home_in, stillness}
use Rattle.cs_board.specs.{Views.slot_row, declared.view.Berth.Berth, declared.view.Plan.Plan, declared.view.View.View}
use Rattle.cs_board.specs.Words.{Words, at, all_words, IsSized, status_at}
use Rattle.cs_board.specs.declared.view.Berth.TheVariants.{Vacant, Full}
use Rattle.cs_board.proofs.Lists.{total_le, total_two, total_none, total_only}
use Rattle.cs_board.proofs.{Opening.count_none, AllWords.get_status, Stores.quiet}
use mathlib.Core.Option as maybe

-- the list of slots from the content of each: a job for each of these, and nothing in further ones
pub row_of : {J : Type 0} (hs : List (maybe.Option (Berth J))) (js : List J) (n : ℕ) → length hs ≡ length js + n
    → ((i : ℕ) (x : J) → slice_get js i ≡ Some x → get_elem? hs i ≡ some (some (Full x)))
    → ((i : ℕ) → length js ≤ i → i < length hs → get_elem? hs i ≡ some (some Vacant))
    → map home_in hs ≡ map (λ j. Some (Full j)) js ++ replicate n (Some Vacant)
row_of [] [] zero l full vacant = refl
row_of [] [] (suc n) l full vacant = absurd (omega arith)
row_of [] (x ∷ js) n l full vacant = absurd (omega arith)
row_of (h ∷ hs) [] zero l full vacant = absurd (omega arith)
row_of (h ∷ hs) [] (suc n) l full vacant =
    let here : h ≡ some Vacant = some-injective _ _ (vacant 0 (omega arith) (omega arith)) in
    ap (λ z. home_in z ∷ map home_in hs) here ∙ ap (λ z. Some Vacant ∷ z)
    (row_of hs [] n (omega arith) (λ i x at_. absurd (cc)) (λ i far near. vacant (suc i) (omega arith) (omega arith)))
row_of (h ∷ hs) (x ∷ js) n l full vacant =
    let here : h ≡ some (Full x) = some-injective _ _ (full 0 x refl) in
    ap (λ z. home_in z ∷ map home_in hs) here ∙ ap (λ z. Some (Full x) ∷ z)
    (row_of hs js n (omega arith) (λ i z at_. full (suc i) z at_)
    (λ i far near. vacant (suc i) (omega arith) (omega arith)))

module _ {J : Type 0} (M : Meaning J) (F : Frames M) (k : Plan J) (plan : IsPlan M k) (p : Words) (sized : IsSized k p)
    (hs : List (maybe.Option (Berth J))) (vs : List (View J)) (f : Facts M k p hs vs)
    (id : ℕ) (v : View J) (here : get_elem? vs id ≡ some v) (last : IsLast v) where
  -- another seat isn't the first one
  follows : (j : ℕ) (w : View J) → j ≢ id → get_elem? vs j ≡ some w → w.first ≡ false
  follows j w n at_ = grind (arith, common_steps, cases_Bool, total_two)

  no_out : (j : ℕ) (w : View J) → get_elem? vs j ≡ some w → w.out ≡ []
  no_out j w at_ = grind (arith, common_steps, cases_eq, follows, some-injective)

  -- every other seat was joined
  pub spent : (j : ℕ) (w : View J) → j ≢ id → get_elem? vs j ≡ some w → w.spent ≡ true
  spent j w n at_ = ⊎_elim
      (λ e. e)
      (λ (e : w.spent ≡ false). absurd (
      let none : total (names w.number) vs ≡ 0 =
      total_none (names w.number) vs (λ i x is. ap (times w.number) (no_out i x is)) in
      let mine : numbered w.number w ≡ 1 =
      ap (λ b. one (not b && (not w.spent && w.number == w.number))) (follows j w n at_)
      ∙ ap (λ b. one (not b && w.number == w.number)) e ∙ ap one (eq-eqb w.number w.number refl) in
      omega (arith, none, mine, f.seats.numbers w.number, total_le (numbered w.number) vs j w at_)))
      (cases_Bool w.spent)

  module _ (j : ℕ) (w : View J) (at_ : get_elem? vs j ≡ some w) where
    pub idle : (w.doing ≡ None) × (w.closing ≡ None) × (w.moving ≡ None) × (w.owes ≡ [])
    idle = grind (arith, common_steps, cases_eq, some-injective, spent)

  none_does : (t : ℕ) → total (does_note t) vs ≡ 0
  none_does t = total_none (does_note t) vs (λ j w a. ap (doing_on t) (idle j w a).0)

  none_closes : (q e : ℕ) → total (closes_by q e) vs ≡ 0
  none_closes q e = total_none (closes_by q e) vs (λ j w a. ap (spot_by q e) (idle j w a).1)

  none_moves : (t : ℕ) → total (moves t) vs ≡ 0
  none_moves t = total_none (moves t) vs (λ j w a. ap (spot_on t) (idle j w a).2)

  none_owes : (t : ℕ) → total (owed t) vs ≡ 0
  none_owes t = total_none (owed t) vs (λ j w a. ap (times t) (idle j w a).3)

  still_or_done : (t : ℕ) → (at p.status t ≡ 0) ⊎ (at p.status t ≡ 3)
  still_or_done t = grind (arith, common_steps, cases_eq, none_does, none_owes)

  -- a Waiting note would watch an edge from an earlier note that isn't Done
  all_done : (n t : ℕ) → t < n → t < k.notes → at p.status t ≡ 3
  all_done zero t l low = absurd (omega arith)
  all_done (suc n) t l low = ⊎_elim
      (λ z. absurd (let h : Waits k p.watch vs t = f.watches.waits t low z in ⊎_elim
      (λ a. let forward = plan.forward h.edge a.0 t a.1 in ⊎_elim
      (λ (c : at p.watch h.edge ≡ 2). omega (arith, c, a.2))
      (λ (c : 0 < total (closes_by a.0 h.edge) vs). omega (arith, c, none_closes a.0 h.edge))
      (f.watches.left h.edge a.0 t a.1 (all_done n a.0 (omega (arith, forward.0)) (omega (arith, forward.0)))))
      (λ b. omega (arith, b.1, none_moves t)) h.who))
      (λ d. d) (still_or_done t)

  pub done : (t : ℕ) → t < k.notes → at p.status t ≡ 3
  done t low = all_done (suc t) t (omega arith) low

  -- each cell has the value after the last note
  value : (a : ℕ) → a < length k.cells → signed (at p.cells a) ≡ cell (serial_cells M k.jobs k.cells) a
  value a low = let h : Kept M k p.status p.cells a = f.stored.values a low in
      h.value (λ t l two. absurd (omega (arith, two, done t l)))
      ∙ sym (quiet M F k plan h.upto k.notes a h.within (λ q m l. ⊎_elim
      (λ w. absurd (h.later q m l w (done q l)))
      (λ w. w) (cases_Bool (writes_at M k q a)))) ∙ ap (λ n. cell (before_at M k n) a) (sym plan.jobs)
      ∙ ap (λ c. cell c a) (before-all M k.jobs k.cells)

  pub end_cells : values p.cells ≡ serial_cells M k.jobs k.cells
  end_cells = ext_get_or (pos 0) (values p.cells) (serial_cells M k.jobs k.cells) (long ∙ sym serial_long)
      (λ i l. map_at p.cells i (omega (arith, long, sized.cells)) ∙ value i (omega (arith, long)))
    where
      long : length (values p.cells) ≡ length k.cells
      long = length-map p.cells signed ∙ sized.cells

      serial_long : length (serial_cells M k.jobs k.cells) ≡ length k.cells
      serial_long = ap length (sym (before-all M k.jobs k.cells)) ∙ length-before M F k.jobs k.cells (length k.jobs)

      map_at : (xs : List ℕ) (i : ℕ) → i < length xs → cell (values xs) i ≡ signed (at xs i)
      map_at [] i l = absurd (omega arith)
      map_at (x ∷ xs) zero l = refl
      map_at (x ∷ xs) (suc i) l = map_at xs i (omega arith)

  pub end_homes : k.notes ≤ length hs → ((i : ℕ) → k.notes ≤ i → i < length hs → get_elem? hs i ≡ some (some Vacant))
      → map home_in hs ≡ slot_row 0 (serial_jobs M k.jobs k.cells) (length hs - k.notes)
  end_homes deep vacant = row_of hs (serial_jobs M k.jobs k.cells) (length hs - k.notes)
      (omega (arith, long, plan.jobs, deep)) each
      (λ i far near. vacant i (omega (arith, long, plan.jobs, far)) near)
    where
      long : length (serial_jobs M k.jobs k.cells) ≡ length k.jobs
      long = length-serial_jobs M k.jobs k.cells

      each : (t : ℕ) (x : J) → slice_get (serial_jobs M k.jobs k.cells) t ≡ Some x
          → get_elem? hs t ≡ some (some (Full x))
      each t x is =
          let low : t < k.notes = omega
          (arith, slice_get_within (serial_jobs M k.jobs k.cells) t x is, long, plan.jobs) in
          let j : J = get_or k.jobs t x in
          let at_ : slice_get k.jobs t ≡ Some j = slice_get-get_or k.jobs t x (omega (arith, low, plan.jobs)) in
          let d : at p.status t ≡ 3 = done t low in
          let z : Some (M.after j (before_at M k t)) ≡ Some x = sym (job_at M k.jobs k.cells t j at_) ∙ is in
          f.slots.home t j at_ (λ two. omega (arith, two, d)) ∙ ap (λ n. some (some (Full (job_if M k (n == 3) t j)))) d
          ∙ ap (λ o. some (some (Full o))) (same_Some _ _ z)

  -- each note occurs once among the last seat's notes
  pub all_mine : AllMine k v
  all_mine t low = sym (total_only (has_done t) vs id v here
      (λ j w n at_. ap (has_done t) ((f.sane j w at_).over (spent j w n at_))))
      ∙ f.tallied.having t ∙ ap (λ x. same x 3) (done t low)

  -- a turn word of a resource that no note of the cycle writes is 0
  pub unturned : (r : ℕ) → r < area_count k → ((t : ℕ) → listed (places_written M k t) r ≡ false) → at p.turns r ≡ 0
  unturned r low none = f.turned r low ∙ omega (
    arith,
    (let z : done_writers M k p.status r ≡ 0 =
        count_none (λ u. at p.status u == 3 && listed (places_written M k u) r) k.notes
        (λ u. ap (λ b. at p.status u == 3 && b) (none u) ∙ and_right (at p.status u == 3) false refl) in z),
    total_none (turned_on M k r) vs (λ j w a. ap (turned_in M k r) (idle j w a).0),
  )

-- the cells are the first of the words, after word 0
pub row_cells : {J : Type 0} (k : Plan J) (w : Words) → IsSized k w → cells_in k (all_words w) ≡ w.cells
row_cells k w s = ap (λ n. take n (drop 1 (all_words w))) (sym s.cells)
    ∙ take-append_seam w.cells (w.turns ++ (w.status ++ (w.own ++ (w.watch ++ w.spare))))

module _ {J : Type 0} (M : Meaning J) (F : Frames M) (k : Plan J) (s : State (Berth J) (View J)) (h : Holds M k s)
    (l : HasLast s) where
  pub nothing_lost : AllDone k s
  nothing_lost t low = ap (λ ws. at ws (status_at k t)) h.words ∙ get_status k h.parts h.sized t low
      ∙ done M F k h.plan h.parts h.sized s.homes s.views h.facts l.0 l.1 l.2 l.3 t low

  pub ends_serial : IsSerial k M s
  ends_serial = record {
    cells = ap (λ ws. values (cells_in k ws)) h.words ∙ ap values (row_cells k h.parts h.sized)
        ∙ end_cells M F k h.plan h.parts h.sized s.homes s.views h.facts l.0 l.1 l.2 l.3;
    vacant = length s.homes - k.notes;
    jobs = end_homes M F k h.plan h.parts h.sized s.homes s.views h.facts l.0 l.1 l.2 l.3 h.deep h.vacant;
  }

  pub ends_over : IsOver k M (stillness s)
  ends_over = record {
    parts = h.parts;
    words = h.words;
    sized = h.sized;
    cells = end_cells M F k h.plan h.parts h.sized s.homes s.views h.facts l.0 l.1 l.2 l.3;
    turns = unturned M F k h.plan h.parts h.sized s.homes s.views h.facts l.0 l.1 l.2 l.3;
    vacant = length s.homes - k.notes;
    homes = end_homes M F k h.plan h.parts h.sized s.homes s.views h.facts l.0 l.1 l.2 l.3 h.deep h.vacant;
  }

  pub ends_mine : AllMine k l.1
  ends_mine = all_mine M F k h.plan h.parts h.sized s.homes s.views h.facts l.0 l.1 l.2 l.3
