-- The position of a view among the edges of a note.
use Rattle.std.proofs.lemmas.{Grind.common_steps, Option.same_Some}
use Rattle.std.proofs.Common.{◌≡◌, ◌≢◌, ℕ, zero, suc, ◌<◌, ◌≤◌, ⊎_elim, List, [], ◌∷◌, Bool, true, false, Option, Some}
use Rattle.std.proofs.Common.{None, refl, ap, ◌∙◌, arith, ◌==◌, ◌&&◌, nat_le, slice_get, eq-eqb, ne_eqb, le-leb}
use Rattle.std.proofs.lemmas.Bool.{cases_eq, lt-leb, or_left, or_right}
use Rattle.cs_board.specs.{Counts.one, Counts.same, Plans.leads_out, Views.closing_from, declared.view.Spot.Spot}
use Rattle.cs_board.specs.Facts.{spot_on, spot_by, spot_at}
use Rattle.cs_board.proofs.Lists.{same_yes, same_no}

pub leads_out_here : (es : List (ℕ × ℕ)) (e p t i : ℕ) → slice_get es e ≡ Some (p, t) → i ≤ e → leads_out es p i ≡ true
leads_out_here [] e p t i h l = absurd (cc)
leads_out_here (x ∷ es) zero p t zero h l = let f : x.0 ≡ p =
    ap (λ z. z.0) (same_Some _ _ h) in or_left (x.0 == p) (leads_out es p zero) (eq-eqb x.0 p f)
leads_out_here (x ∷ es) (suc e) p t zero h l =
    or_right (x.0 == p) (leads_out es p zero) (leads_out_here es e p t zero h (omega arith))
leads_out_here (x ∷ es) zero p t (suc i) h l = absurd (omega arith)
leads_out_here (x ∷ es) (suc e) p t (suc i) h l = leads_out_here es e p t i h (omega arith)

one_both : (a b : Bool) → a ≡ true → b ≡ true → one (a && b) ≡ 1
one_both a b p q = ap (λ x. one (x && b)) p ∙ ap one q

one_left : (a b : Bool) → a ≡ false → one (a && b) ≡ 0
one_left a b p = ap (λ x. one (x && b)) p

one_right : (a b : Bool) → b ≡ false → one (a && b) ≡ 0
one_right true b q = ap one q
one_right false b q = refl

one_less : (a b : Bool) → one (a && b) ≤ one a
one_less true true = omega arith
one_less true false = omega arith
one_less false b = omega arith

pub on_here : (p i : ℕ) → spot_on p (Some (record { note = p; from = i })) ≡ 1
on_here p i = same_yes p p refl

pub on_else : (p q i : ℕ) → p ≢ q → spot_on q (Some (record { note = p; from = i })) ≡ 0
on_else p q i n = same_no p q n

pub by_here : (p i e : ℕ) → i ≤ e → spot_by p e (Some (record { note = p; from = i })) ≡ 1
by_here p i e l = one_both (p == p) (nat_le i e) (eq-eqb p p refl) (le-leb i e l)

pub by_else : (p q i e : ℕ) → p ≢ q → spot_by q e (Some (record { note = p; from = i })) ≡ 0
by_else p q i e n = one_left (p == q) (nat_le i e) (ne_eqb p q n)

pub by_later : (p i e : ℕ) → e < i → spot_by p e (Some (record { note = p; from = i })) ≡ 0
by_later p i e l = one_right (p == p) (nat_le i e) (lt-leb i e l)

pub at_here : (p i : ℕ) → spot_at p i (Some (record { note = p; from = i })) ≡ 1
at_here p i = one_both (p == p) (i == i) (eq-eqb p p refl) (eq-eqb i i refl)

pub at_else : (p q i j : ℕ) → p ≢ q → spot_at q j (Some (record { note = p; from = i })) ≡ 0
at_else p q i j n = one_left (p == q) (i == j) (ne_eqb p q n)

pub at_apart : (p i j : ℕ) → i ≢ j → spot_at p j (Some (record { note = p; from = i })) ≡ 0
at_apart p i j n = one_right (p == p) (i == j) (ne_eqb i j n)

-- a spot that is counted at an edge is at that edge
pub at_from : (p i j : ℕ) → spot_at p j (Some (record { note = p; from = i })) ≡ 1 → i ≡ j
at_from p i j h = ⊎_elim (λ e. e) (λ n. absurd (omega (arith, at_apart p i j n))) (cases_eq i j)

pub at_less : (p j : ℕ) (o : Option Spot) → spot_at p j o ≤ spot_on p o
at_less p j None = omega arith
at_less p j (Some s) = one_less (s.note == p) (s.from == j)

-- what a view closes, from edge i on
pub closing_by : (es : List (ℕ × ℕ)) (e p t i : ℕ) → slice_get es e ≡ Some (p, t) → i ≤ e
    → spot_by p e (closing_from es p i) ≡ 1
closing_by es e p t i h l = grind (arith, common_steps, by_here, leads_out_here)

pub closing_on : (es : List (ℕ × ℕ)) (p i q : ℕ) → spot_on q (closing_from es p i) ≤ same p q
closing_on es p i q = grind (arith, common_steps)
