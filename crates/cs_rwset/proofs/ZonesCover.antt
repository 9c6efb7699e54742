-- Zones cover the same cells as their areas.
use Rattle.std.proofs.Common.{◌≡◌, ◌+◌, ◌<◌, ◌&&◌, ◌||◌, ℕ, zero, suc, Bool, true, false, List, [], ◌∷◌, get_or, length}
use Rattle.std.proofs.Common.{nat_le, nat_lt, slice_get, take, Some, if◌then◌else◌, refl, sym, ◌∙◌, ap, subst, arith}
use Rattle.std.proofs.Common.{⊎_elim}
use Rattle.std.specs.List.{range_with_len}
use Rattle.std.proofs.lemmas.Bool.{and_from, and_parts, or_cases, or_left, or_right}
use Rattle.std.proofs.lemmas.{Bool.Decides.nat_tests, List.Sums.sum_by-cons}
use Rattle.cs_cells.specs.{Areas.IsLaid, Areas.word_count, Cells.covers, Cells.in_area, declared.footprint.Area.Area}
use Rattle.cs_rwset.specs.inner.Marks.{marked}
use Rattle.cs_rwset.specs.inner.Zoning.{AreKept, heads, joined, zones_from, zones_of}
use Rattle.cs_rwset.proofs.Holding.{at_covers, covered_at, none_in}
use Rattle.cs_rwset.proofs.Placed.{contains_filter, contains_range, filter_contains, same_tests}

-- ---- areas, one after another

-- areas follow one another from an address on
abbrev pub LaidFrom : ℕ → List Area → Type 0
LaidFrom n [] = Unit {0}
LaidFrom n (x ∷ areas) = (x.first ≡ n) × LaidFrom (n + x.length) areas

pub laid_from : (n : ℕ) (areas : List Area)
    → ((p : ℕ) (x : Area) → slice_get areas p ≡ Some x → x.first ≡ n + word_count (take p areas)) → LaidFrom n areas
laid_from n [] follows = tt
laid_from n (x ∷ areas) follows = (
  let here : x.first ≡ n + 0 = follows 0 x refl in omega (arith, here),
  laid_from (n + x.length) areas (λ p y at.
      let there : y.first ≡ n + word_count (x ∷ take p areas) = follows (suc p) y at in
      let front : word_count (x ∷ take p areas) ≡ x.length + word_count (take p areas) =
      sum_by-cons (λ w. w.length) x (take p areas) in
      omega (arith, there, front)),
)

pub laid_at_zero : (areas : List Area) → IsLaid areas → LaidFrom 0 areas
laid_at_zero areas laid = laid_from 0 areas (λ p x at.
    let first : x.first ≡ word_count (take p areas) = laid.follows p x at in omega (arith, first))

-- ---- marks and cells

-- an address is in an area that is marked
module _ (a : ℕ) where
  abbrev pub lies : List Bool → List Area → Bool
  lies [] areas = false
  lies (m ∷ marks) [] = false
  lies (m ∷ marks) (x ∷ areas) = (m && in_area (Some x) a) || lies marks areas

  lies_at : (marks : List Bool) (areas : List Area) → lies marks areas ≡ true
      → (p : ℕ) × (get_or marks p false ≡ true) × (in_area (slice_get areas p) a ≡ true)
  lies_at [] areas h = absurd cc
  lies_at (m ∷ marks) [] h = absurd cc
  lies_at (m ∷ marks) (x ∷ areas) h = ⊎_elim
      (λ here. let both = and_parts m (in_area (Some x) a) here in (zero, both.0, both.1))
      (λ later. let rest = lies_at marks areas later in (suc rest.0, rest.1, rest.2))
      (or_cases (m && in_area (Some x) a) (lies marks areas) h)

  at_lies : (marks : List Bool) (areas : List Area) (p : ℕ) → get_or marks p false ≡ true
      → in_area (slice_get areas p) a ≡ true → lies marks areas ≡ true
  at_lies [] areas p m h = absurd (let e : get_or [] p false ≡ true = m in cc)
  at_lies (m ∷ marks) [] p e h = absurd (none_in a h)
  at_lies (m ∷ marks) (x ∷ areas) zero e h =
      or_left (m && in_area (Some x) a) (lies marks areas) (and_from m (in_area (Some x) a) e h)
  at_lies (m ∷ marks) (x ∷ areas) (suc p) e h =
      or_right (m && in_area (Some x) a) (lies marks areas) (at_lies marks areas p e h)

  mark_within : (marks : List Bool) (p : ℕ) → get_or marks p false ≡ true → p < length marks
  mark_within [] p e = absurd (let f : get_or [] p false ≡ true = e in cc)
  mark_within (m ∷ marks) zero e = omega arith
  mark_within (m ∷ marks) (suc p) e = let later = mark_within marks p e in omega arith

  pub covers_lies : (marks : List Bool) (areas : List Area) → covers areas (marked marks) a ≡ lies marks areas
  covers_lies marks areas = same_tests (covers areas (marked marks) a) (lies marks areas)
      (λ h. let c = covered_at areas (marked marks) a h in
      let f = filter_contains (λ p. get_or marks p false) (range_with_len 0 (length marks)) c.0 c.1 in
      at_lies marks areas c.0 f.1 c.2) (λ h. let l = lies_at marks areas h in
      at_covers areas (marked marks) l.0 a
      (contains_filter (λ p. get_or marks p false) (range_with_len 0 (length marks)) l.0
      (contains_range (length marks) l.0 (mark_within marks l.0 l.1)) l.1) l.2)

  -- ---- zones

  in_joined : (z x : Area) → x.first ≡ z.first + z.length
      → in_area (Some (joined z x)) a ≡ (in_area (Some z) a || in_area (Some x) a)
  in_joined z x e = same_tests (in_area (Some (joined z x)) a) (in_area (Some z) a || in_area (Some x) a)
      (λ h. let both = and_parts (nat_le z.first a) (nat_lt a (z.first + (z.length + x.length))) h in
      let low = both.0 in let high = both.1 in
      either (nat_lt a (z.first + z.length)) refl low high)
      (λ h. ⊎_elim
      (λ l. let both = and_parts (nat_le z.first a) (nat_lt a (z.first + z.length)) l in
      let low = both.0 in let high = both.1 in
      and_from (nat_le z.first a) (nat_lt a (z.first + (z.length + x.length))) (grind (arith, nat_tests))
      (grind (arith, nat_tests)))
      (λ l. let both = and_parts (nat_le x.first a) (nat_lt a (x.first + x.length)) l in
      let low = both.0 in let high = both.1 in
      and_from (nat_le z.first a) (nat_lt a (z.first + (z.length + x.length))) (grind (arith, nat_tests))
      (grind (arith, nat_tests))) (or_cases (in_area (Some z) a) (in_area (Some x) a) h))
    where
      either : (b : Bool) → nat_lt a (z.first + z.length) ≡ b → nat_le z.first a ≡ true
          → nat_lt a (z.first + (z.length + x.length)) ≡ true → (in_area (Some z) a || in_area (Some x) a) ≡ true
      either true is low high = or_left (in_area (Some z) a) (in_area (Some x) a)
          (and_from (nat_le z.first a) (nat_lt a (z.first + z.length)) low is)
      either false is low high = or_right (in_area (Some z) a) (in_area (Some x) a)
          (and_from (nat_le x.first a) (nat_lt a (x.first + x.length)) (grind (arith, nat_tests))
          (grind (arith, nat_tests)))

  shared_out : (m i j r : Bool) → ((m && (i || j)) || r) ≡ ((m && i) || ((m && j) || r))
  shared_out true true j r = refl
  shared_out m i j r = refl

  -- marked zones cover the same cells as marked areas, if marks don't change within a zone
  zone_lies : (m : Bool) (marks begins : List Bool) (z : Area) (areas : List Area)
      → length marks ≡ length areas → length begins ≡ length areas → LaidFrom (z.first + z.length) areas
      → ((p : ℕ) → p < length marks → get_or begins p false ≡ false → get_or (m ∷ marks) p false ≡ get_or marks p false)
      → lies (m ∷ heads marks begins) (zones_from z areas begins) ≡ ((m && in_area (Some z) a) || lies marks areas)
  zone_lies m [] begins z [] e f laid kept = refl
  zone_lies m [] begins z (x ∷ areas) e f laid kept = absurd (omega (arith, e))
  zone_lies m (k ∷ marks) begins z [] e f laid kept = absurd (omega (arith, e))
  zone_lies m (k ∷ marks) [] z (x ∷ areas) e f laid kept = absurd (omega (arith, f))
  zone_lies m (k ∷ marks) (true ∷ begins) z (x ∷ areas) e f laid kept =
      ap (λ r. (m && in_area (Some z) a) || r) (zone_lies k marks begins x areas (omega (arith, e)) (omega (arith, f))
      (subst (λ n. LaidFrom (n + x.length) areas) (sym laid.0) laid.1)
      (λ p low same. kept (suc p) (omega (arith, low)) same))
  zone_lies m (k ∷ marks) (false ∷ begins) z (x ∷ areas) e f laid kept =
      let same : m ≡ k = kept 0 (omega arith) refl in
      let on : z.first + z.length + x.length ≡ z.first + (z.length + x.length) = omega arith in
      zone_lies m marks begins (joined z x) areas (omega (arith, e)) (omega (arith, f))
      (subst (λ n. LaidFrom n areas) on laid.1)
      (λ p low still. ap (λ j. get_or (j ∷ marks) p false) same ∙ kept (suc p) (omega (arith, low)) still)
      ∙ ap (λ i. (m && i) || lies marks areas) (in_joined z x laid.0)
      ∙ shared_out m (in_area (Some z) a) (in_area (Some x) a) (lies marks areas)
      ∙ ap (λ j. (m && in_area (Some z) a) || ((j && in_area (Some x) a) || lies marks areas)) same

  pub zones_cover : (marks begins : List Bool) (areas : List Area) → IsLaid areas → length marks ≡ length areas
      → length begins ≡ length areas → (0 < length begins → get_or begins 0 false ≡ true) → AreKept begins marks
      → covers (zones_of areas begins) (marked (heads marks begins)) a ≡ covers areas (marked marks) a
  zones_cover marks begins areas laid e f first kept =
      covers_lies (heads marks begins) (zones_of areas begins) ∙ by marks begins areas e f first kept
      (laid_at_zero areas laid) ∙ sym (covers_lies marks areas)
    where
      by : (marks begins : List Bool) (areas : List Area) → length marks ≡ length areas → length begins ≡ length areas
          → (0 < length begins → get_or begins 0 false ≡ true) → AreKept begins marks → LaidFrom 0 areas
          → lies (heads marks begins) (zones_of areas begins) ≡ lies marks areas
      by [] begins [] e f first kept laid = refl
      by [] begins (x ∷ areas) e f first kept laid = absurd (omega (arith, e))
      by (m ∷ marks) begins [] e f first kept laid = absurd (omega (arith, e))
      by (m ∷ marks) [] (x ∷ areas) e f first kept laid = absurd (omega (arith, f))
      by (m ∷ marks) (b ∷ begins) (x ∷ areas) e f first kept laid =
          ap (λ c. lies (if c then m ∷ heads marks begins else heads marks begins) (zones_from x areas begins))
          (first (omega arith)) ∙ zone_lies m marks begins x areas (omega (arith, e)) (omega (arith, f))
          (subst (λ n. LaidFrom (n + x.length) areas) (sym laid.0) laid.1)
          (λ p low same. kept p (omega (arith, low)) same)
