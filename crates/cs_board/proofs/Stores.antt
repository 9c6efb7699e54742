-- The cells: each has the value of the serial run before some note, and an image has the cells that its note
-- uses.
use Rattle.std.proofs.lemmas.{Grind.common_steps, Option.same_Some, Bool.both_ways, Bool.cases_Bool, Bool.cases_eq}
use Rattle.std.proofs.lemmas.{Bool.cases_lt, List.get_or-set_same, List.get_or-set_other, List.length-set}
use Rattle.std.proofs.Common.{◌≡◌, ◌≢◌, ℕ, ◌+◌, ◌-◌, ◌<◌, ◌≤◌, ⊎_elim, pos, List, length, set, slice_set, true, false}
use Rattle.std.proofs.Common.{Some, None, sym, ap, ◌∙◌, subst, arith, ◌==◌, slice_get}
use mathlib.Core.Option.{some}
use lib.ListN.{get_elem?}
use Rattle.cs_cells.specs.{Cells.cell, Cells.signed, Cells.covers, Meaning.Meaning, Meaning.Frames}
use Rattle.cs_cells.proofs.SerialRun.{passed_by_all, length-before}
use Rattle.cs_board.specs.Facts.{Gates, Doers, Kept, Pictured, Stored}
use Rattle.cs_board.specs.Plans.{IsPlan, uses_at, writes_at, writes_of, before_at}
use Rattle.cs_board.specs.Views.{set_image, fresh}
use Rattle.cs_board.specs.{Words.at, declared.view.Doing.Doing, declared.view.Plan.Plan, declared.view.View.View}
use Rattle.cs_board.proofs.Conflicts.{writer_user_at, user_writer_at, written_used_at, past, begun_at, alone_at}
use Rattle.cs_board.proofs.{Does.busy, Does.apart, Lists.put_cases, Lists.at_set}

module _ {J : Type 0} (M : Meaning J) (F : Frames M) (k : Plan J) (plan : IsPlan M k) where
  writes_job : (t a : ℕ) (j : J) → slice_get k.jobs t ≡ Some j → covers (M.areas j) (M.foot j).writes a ≡ true
      → writes_at M k t a ≡ true
  writes_job t a j e h = subst (λ o. covers k.areas (writes_of M o) a ≡ true) (sym e)
      (subst (λ z. covers z (M.foot j).writes a ≡ true) (plan.layout t j e) h)

  -- notes that don't write a cell leave its value
  pub quiet : (p t a : ℕ) → p ≤ t → ((q : ℕ) → p ≤ q → q < t → writes_at M k q a ≡ false)
      → cell (before_at M k t) a ≡ cell (before_at M k p) a
  quiet p t a low h = passed_by_all M F k.jobs k.cells plan.valid p a (t - p) t (omega arith)
      (λ q j l m e w. both_ways _ (h q l m) (writes_job q a j e w))

  -- a note has begun and isn't Done: a cell that it uses and that no note InProgress writes has the value
  -- before it in the serial run
  pub used_before : (st wt cw : List ℕ) → Gates k st wt → (t a : ℕ) → t < k.notes → at st t ≢ 0 → at st t ≢ 3
      → uses_at M k t a ≡ true → ((u : ℕ) → u < k.notes → at st u ≡ 2 → writes_at M k u a ≡ false) → Kept M k st cw a
      → signed (at cw a) ≡ cell (before_at M k t) a
  used_before st wt cw g t a low begun open_ used quiet_now h = h.value quiet_now ∙ ⊎_elim
      (λ (l : h.upto < t). sym (quiet h.upto t a (omega arith) (λ q x y. ⊎_elim
      (λ z. absurd (h.later q x (omega arith) z
      (past M k plan st wt g q t (writer_user_at M k plan q t a y z used) begun)))
      (λ z. z) (cases_Bool (writes_at M k q a)))))
      (λ (l : t ≤ h.upto). quiet t h.upto a l (λ q x y. ⊎_elim
      (λ z. absurd (let d : at st q ≡ 3 = h.done q y z in ⊎_elim
      (λ (e : t ≡ q). open_ (ap (at st) e ∙ d))
      (λ (n : t ≢ q). open_ (past M k plan st wt g t q (user_writer_at M k plan t q a (omega arith) used z)
      (λ c. omega arith))) (cases_eq t q)))
      (λ z. z) (cases_Bool (writes_at M k q a)))) (cases_lt h.upto t)

  module _ (st wt cw : List ℕ) (vs : List (View J)) (id : ℕ) (v w : View J) (here : get_elem? vs id ≡ some v)
      (g : Gates k st wt) where
    -- a step after which the same notes are Done, and no further note is InProgress
    kept_still : (st' : List ℕ) (a : ℕ) → ((u : ℕ) → (at st' u == 3) ≡ (at st u == 3))
        → ((u : ℕ) → at st u ≡ 2 → at st' u ≡ 2) → Kept M k st cw a → Kept M k st' cw a
    kept_still st' a alike runs h =
        let from_true : (n : ℕ) → (n == 3) ≡ true
        → n ≡ 3 = λ n e. grind (arith, Rattle.std.proofs.lemmas.Bool.eqb-true) in
        record {
          upto = h.upto;
          within = h.within;
          done = λ u l x. from_true (at st' u) (alike u ∙ ap (λ z. z == 3) (h.done u l x));
          later = λ u l m x z. h.later u l m x (from_true (at st u) (sym (alike u) ∙ ap (λ y. y == 3) z));
          value = λ q. h.value (λ u l e. q u l (runs u e));
        }

    pub stored_step : (st' : List ℕ) → ((u : ℕ) → (at st' u == 3) ≡ (at st u == 3))
        → ((u : ℕ) → at st u ≡ 2 → at st' u ≡ 2)
        → ((d : Doing) → w.doing ≡ Some d → Pictured M k cw d) → Stored M k st cw vs → Stored M k st' cw (set vs id w)
    stored_step st' alike runs mine s = record {
      values = λ a low. kept_still st' a alike runs (s.values a low);
      images = λ i x d e is. ⊎_elim (λ z. mine d (ap (λ y. y.doing) z.1 ∙ is)) (λ z. s.images i x d z.1 is)
          (at_set vs id i w x e);
    }

    -- a note begins: the cells that it uses are those before it in the serial run
    pub pictured_fresh : (t : ℕ) → t < k.notes → at st t ≡ 1 → Stored M k st cw vs → Pictured M k cw (fresh M k t)
    pictured_fresh t low is s = grind (arith, common_steps, begun_at, cases_Bool, length-before, used_before)

    -- a cell is set by the note that writes it
    pub stored_set : (d : Doing) (a x : ℕ) → Doers k st vs → v.doing ≡ Some d → d.phase ≡ 0
        → w.doing ≡ Some (set_image d a (signed x)) → a < length cw → length cw ≡ length k.cells
        → d.note < k.notes → writes_at M k d.note a ≡ true → Stored M k st cw vs
        → Stored M k st (set cw a x) (set vs id w)
    stored_set d a x D doing zero_ doing' low long within writes s =
        let mine : Pictured M k (set cw a x) (set_image d a (signed x)) = let p = s.images id v d here doing in record {
          long = length-set d.image a (signed x) ∙ p.long;
          seen = λ b l u. ⊎_elim
              (λ (e : b ≡ a). ap (λ c. signed (at (set cw a x) c)) e ∙ ap signed (get_or-set_same cw a x 0 low)
              ∙ sym (ap (λ c. cell (slice_set d.image a (signed x)) c) e
              ∙ get_or-set_same d.image a (signed x) (pos 0) (omega (arith, p.long))))
              (λ (n : b ≢ a). ap signed (get_or-set_other cw a b x 0 n) ∙ p.seen b l u
              ∙ sym (get_or-set_other d.image a b (signed x) (pos 0) n)) (cases_eq b a);
          after = λ z. absurd (omega arith);
        } in
        record {
          values = λ b l. let h = s.values b l in record {
            upto = h.upto;
            within = h.within;
            done = h.done;
            later = h.later;
            value = λ q. ⊎_elim
                (λ (e : b ≡ a). absurd (both_ways _
                (subst (λ c. writes_at M k d.note c ≡ false) e (q d.note within running)) writes))
                (λ (n : b ≢ a). ap signed (get_or-set_other cw a b x 0 n) ∙ h.value q) (cases_eq b a);
          };
          images = λ i y e at_ is. ⊎_elim
              (λ z. subst (Pictured M k (set cw a x)) (same_Some _ _ (sym doing' ∙ ap (λ u. u.doing) z.1 ∙ is)) mine)
              (λ z. others i y e z.0 z.1 is (s.images i y e z.1 is)) (at_set vs id i w y at_);
        }
      where
        running : at st d.note ≡ 2
        running = busy k st vs D id v d here doing

        others : (i : ℕ) (y : View J) (e : Doing) → i ≢ id → get_elem? vs i ≡ some y → y.doing ≡ Some e
            → Pictured M k cw e → Pictured M k (set cw a x) e
        others i y e n at_ is p = record {
          long = p.long;
          seen = λ b l u. ⊎_elim
              (λ (z : b ≡ a). absurd (apart k st vs D i id y v e d n at_ here is doing
              (sym (alone_at M k plan st wt g d.note e.note a writes (subst (λ c. uses_at M k e.note c ≡ true) z u)
              running (busy k st vs D i y e at_ is)))))
              (λ (z : b ≢ a). ap signed (get_or-set_other cw a b x 0 z) ∙ p.seen b l u) (cases_eq b a);
          after = p.after;
        }

    -- a note that has run becomes Done: the cells that it writes are those after it in the serial run
    pub stored_done : (d : Doing) → Doers k st vs → v.doing ≡ Some d → 1 ≤ d.phase → w.doing ≡ None → d.note < length st
        → d.note < k.notes → Stored M k st cw vs → Stored M k (set st d.note 3) cw (set vs id w)
    stored_done d D doing ran over low within s = record {
      values = λ a l. ⊎_elim (λ x. written a l x (s.values a l)) (λ x. left a x (s.values a l))
          (cases_Bool (writes_at M k d.note a));
      images = λ i y e at_ is. ⊎_elim
          (λ z. absurd (let n : Some e ≡ None = sym is ∙ ap (λ u. u.doing) (sym z.1) ∙ over in cc))
          (λ z. s.images i y e z.1 is) (at_set vs id i w y at_);
    }
      where
        running : at st d.note ≡ 2
        running = busy k st vs D id v d here doing

        now_done : (u : ℕ) → at st u ≡ 3 → at (set st d.note 3) u ≡ 3
        now_done u e = ⊎_elim (λ h. h.1) (λ h. h.1 ∙ e) (put_cases st d.note 3 u low)

        written : (a : ℕ) → a < length k.cells → writes_at M k d.note a ≡ true → Kept M k st cw a
            → Kept M k (set st d.note 3) cw a
        written a l x h = let used = written_used_at M k plan d.note a x in let p =
            s.images id v d here doing in record {
              upto = d.note + 1;
              within = omega arith;
              done = λ u m y. ⊎_elim
                  (λ (e : u ≡ d.note). ⊎_elim (λ z. z.1) (λ z. absurd (z.0 e)) (put_cases st d.note 3 u low))
                  (λ (n : u ≢ d.note). now_done u
                  (past M k plan st wt g u d.note (writer_user_at M k plan u d.note a (omega arith) y used)
                  (λ z. omega (arith, running)))) (cases_eq u d.note);
              later = λ u m n y e. ⊎_elim
                  (λ z. omega (arith, z.0))
                  (λ z. let c : at st d.note ≡ 3 =
                  past M k plan st wt g d.note u (user_writer_at M k plan d.note u a (omega arith) used y)
                  (λ q. omega (arith, z.1, e)) in omega (arith, running)) (put_cases st d.note 3 u low);
              value = λ q. p.seen a l used ∙ ap (λ c. cell c a) (p.after ran);
            }

        left : (a : ℕ) → writes_at M k d.note a ≡ false → Kept M k st cw a → Kept M k (set st d.note 3) cw a
        left a x h = record {
          upto = h.upto;
          within = h.within;
          done = λ u m y. now_done u (h.done u m y);
          later = λ u m n y e. ⊎_elim
              (λ z. both_ways _ x (subst (λ c. writes_at M k c a ≡ true) z.0 y))
              (λ z. h.later u m n y (sym z.1 ∙ e)) (put_cases st d.note 3 u low);
          value = λ q. h.value (λ u m e. ⊎_elim
              (λ z. subst (λ c. writes_at M k c a ≡ false) (sym z.0) x)
              (λ z. q u m (z.1 ∙ e)) (put_cases st d.note 3 u low));
        }
