-- Areas that follow one another: how such a list grows, and that no two of them share a cell.
use Rattle.std.proofs.lemmas.{Grind.common_steps, List.take_at, List.take-append-le, Bool.and_parts, Bool.or_cases}
use Rattle.std.proofs.lemmas.{Bool.cases_order, List.Sums.sum_by-cons, List.Sums.sum_by_more_le}
use Rattle.std.proofs.Common.{◌≡◌, ℕ, zero, suc, ◌+◌, ◌<◌, ◌≤◌, List, [], ◌∷◌, ◌++◌, length, take, slice_get, get_or}
use Rattle.std.proofs.Common.{Some, None, Option, true, ◌⊎◌, inl, inr, ⊎_elim, refl, sym, ◌∙◌, ap, arith, ltb-true}
use Rattle.std.proofs.Common.{leb-true, nat_lt, nat_le}
use Rattle.std.proofs.lemmas.Option.{get_or_from_slice_get, slice_get_within}
use Rattle.cs_cells.specs.{declared.footprint.Area.Area, Cells.in_area, Cells.covers}
use Rattle.cs_cells.specs.Areas.{HasPlace, IsLaid, word_count}

pub at_push : {X : Type 0} (xs : List X) (x : X) (k : ℕ) (y : X) → slice_get (xs ++ x ∷ []) k ≡ Some y
    → ((slice_get xs k ≡ Some y) × (k < length xs)) ⊎ ((k ≡ length xs) × (y ≡ x))
at_push [] x zero y at = inr (refl, cc)
at_push [] x (suc k) y at = absurd (cc)
at_push (z ∷ xs) x zero y at = inl (at, omega arith)
at_push (z ∷ xs) x (suc k) y at =
    ⊎_elim (λ front. inl (front.0, omega arith)) (λ last. inr (ap suc last.0, last.1)) (at_push xs x k y at)

pub laid_none : IsLaid []
laid_none = grind (arith, common_steps)

pub laid_more : (areas : List Area) (area : Area) → IsLaid areas → area.first ≡ word_count areas
    → ((place : ℕ) → ¬ (HasPlace areas area.res place))
    → IsLaid (areas ++ area ∷ [])
laid_more areas area laid first new = record {
  follows = λ place a at. ⊎_elim
      (λ front. let low : place ≤ length areas = omega (arith, front.1) in laid.follows place a front.0
      ∙ ap word_count (sym (take-append-le place areas (area ∷ []) low)))
      (λ last. ap (λ x. x.first) last.1 ∙ first ∙ ap word_count (sym (take_at areas (area ∷ []) place (sym last.0))))
      (at_push areas area place a at);
  apart = λ p q res h k. ⊎_elim
      (λ p_front. ⊎_elim
      (λ q_front. laid.apart p q res (h.0, p_front.0, h.2) (k.0, q_front.0, k.2))
      (λ q_last. absurd (new p (h.0, p_front.0, h.2 ∙ sym k.2 ∙ ap (λ x. x.res) q_last.1)))
      (at_push areas area q k.0 k.1))
      (λ p_last. ⊎_elim
      (λ q_front. absurd (new q (k.0, q_front.0, k.2 ∙ sym h.2 ∙ ap (λ x. x.res) p_last.1)))
      (λ q_last. p_last.0 ∙ sym q_last.0)
      (at_push areas area q k.0 k.1))
      (at_push areas area p h.0 h.1);
}

-- an area ends at or before the beginning of a later one
area_before : (areas : List Area) (p q : ℕ) (a : Area) → p < q → slice_get areas p ≡ Some a
    → word_count (take p areas) + a.length ≤ word_count (take q areas)
area_before [] p q a l at = absurd (cc)
area_before (b ∷ rest) p zero a l at = absurd (omega arith)
area_before (b ∷ rest) zero (suc q) a l at = grind (arith, common_steps, sum_by-cons)
area_before (b ∷ rest) (suc p) (suc q) a l at =
    grind (arith, common_steps, sum_by-cons, area_before rest p q a (omega arith) at)

pub area_within : (areas : List Area) (p : ℕ) (a : Area) → IsLaid areas → slice_get areas p ≡ Some a
    → a.first + a.length ≤ word_count areas
area_within areas p a laid at =
    let first : a.first ≡ word_count (take p areas) = laid.follows p a at in
    let here : (get_or areas p a).length ≡ a.length = ap (λ x. x.length) (get_or_from_slice_get areas p a a at) in
    omega (arith, sum_by_more_le (λ x. x.length) areas p a (slice_get_within areas p a at))

-- if an address is in an optional area, there is an area, and it contains the address
in_some : (o : Option Area) (x : ℕ) → in_area o x ≡ true
    → (a : Area) × (o ≡ Some a) × (a.first ≤ x) × (x < a.first + a.length)
in_some None x h = absurd (cc)
in_some (Some a) x h = let both =
    and_parts (nat_le a.first x) (nat_lt x (a.first + a.length))
    h in (a, refl, leb-true a.first x both.0, ltb-true x (a.first + a.length) both.1)

-- no two areas share a cell
pub one_place : (areas : List Area) (p q x : ℕ) → IsLaid areas → in_area (slice_get areas p) x ≡ true
    → in_area (slice_get areas q) x ≡ true → p ≡ q
one_place areas p q x laid hp hq =
    let a = in_some (slice_get areas p) x hp in
    let b = in_some (slice_get areas q) x hq in
    let first_a : a.0.first ≡ word_count (take p areas) = laid.follows p a.0 a.1 in
    let first_b : b.0.first ≡ word_count (take q areas) = laid.follows q b.0 b.1 in
    ⊎_elim (λ equal. equal)
    (λ apart. ⊎_elim
    (λ l. absurd (let e = area_before areas p q a.0 l a.1 in omega (arith, e, first_a, first_b, a.3, b.2)))
    (λ l. absurd (let e = area_before areas q p b.0 l b.1 in omega (arith, e, first_a, first_b, b.3, a.2)))
    apart)
    (cases_order p q)

-- a covered address is in the area with a listed index
pub covered_place : (areas : List Area) (places : List ℕ) (x : ℕ) → covers areas places x ≡ true
    → (i : ℕ) × (place : ℕ) × (slice_get places i ≡ Some place) × (in_area (slice_get areas place) x ≡ true)
covered_place areas [] x h = absurd (cc)
covered_place areas (place ∷ places) x h = ⊎_elim
    (λ here. (0, place, refl, here))
    (λ later. let rest = covered_place areas places x later in (suc rest.0, rest.1, rest.2, rest.3))
    (or_cases (in_area (slice_get areas place) x) (covers areas places x) h)

-- a covered address is less than the number of cells
pub covered_below : (areas : List Area) (places : List ℕ) (x : ℕ) → IsLaid areas → covers areas places x ≡ true
    → x < word_count areas
covered_below areas places x laid h = grind (arith, common_steps, area_within, covered_place, in_some)
