-- Who does a note: no two views do the same one, and a note that a view does is InProgress.
use Rattle.std.proofs.lemmas.Grind.{common_steps}
use Rattle.std.proofs.Common.{◌≡◌, ◌≢◌, ℕ, ◌+◌, ◌<◌, ◌≤◌, ⊎_elim, List, length, set, Some, refl, sym, ap, ◌∙◌, arith}
use Rattle.std.proofs.Common.{◌==◌}
use mathlib.Core.Option.{some}
use lib.ListN.{get_elem?}
use Rattle.cs_board.specs.{Counts.total, Facts.doing_on, Facts.does_note, Facts.Doers, Words.at}
use Rattle.cs_board.specs.{declared.view.Doing.Doing, declared.view.Plan.Plan, declared.view.View.View}
use Rattle.cs_board.proofs.Lists.{same_yes, same_cases, put_cases, total_le, total_two}

module _ {J : Type 0} (k : Plan J) (st : List ℕ) (vs : List (View J)) (D : Doers k st vs) where
  pub does_one : (x : View J) (d : Doing) → x.doing ≡ Some d → does_note d.note x ≡ 1
  does_one x d e = ap (doing_on d.note) e ∙ same_yes d.note d.note refl

  pub busy : (i : ℕ) (x : View J) (d : Doing) → get_elem? vs i ≡ some x → x.doing ≡ Some d → at st d.note ≡ 2
  busy i x d e is = ⊎_elim (λ h. h.0)
      (λ h. absurd (omega (arith, h.1, D d.note, total_le (does_note d.note) vs i x e, does_one x d is)))
      (same_cases (at st d.note) 2)

  pub apart : (i j : ℕ) (x y : View J) (d e : Doing) → i ≢ j → get_elem? vs i ≡ some x → get_elem? vs j ≡ some y
      → x.doing ≡ Some d → y.doing ≡ Some e → d.note ≢ e.note
  apart i j x y d e n a b p q s =
      let one_x : does_note e.note x ≡ 1 = ap (λ t. does_note t x) (sym s) ∙ does_one x d p in
      let one_y : does_note e.note y ≡ 1 = does_one y e q in
      let two : does_note e.note x + does_note e.note y ≤ total (does_note e.note) vs =
      total_two (does_note e.note) vs i j x y n a b in
      ⊎_elim (λ h. omega (arith, h.1, D e.note)) (λ h. omega (arith, h.1, D e.note)) (same_cases (at st e.note) 2)

-- the status after one was set to another on the same side of Done
pub alike : (st : List ℕ) (t x a : ℕ) → t < length st → at st t ≡ a → (x == 3) ≡ (a == 3) → (u : ℕ)
    → (at (set st t x) u == 3) ≡ (at st u == 3)
alike st t x a low is side u = grind (arith, common_steps, put_cases)
