use Rattle.std.proofs.lemmas.Grind.{common_steps, flat_map-append}
use Rattle.std.proofs.lemmas.List.{take_more, take_all}
use Rattle.std.proofs.Common.{◌≡◌, ◌≤◌, ◌<◌, ℕ, ◌+◌, ℤ, pos, nat_abs, List, [], ◌∷◌, ◌++◌, length, take, get_or, max}
use Rattle.std.proofs.Common.{flat_map, codes, Option, Some, refl, ap, subst, ◌∙◌, append_assoc, append-nil, arith}
use Rattle.std.specs.Fmt.{signed_decimal}
use Rattle.cs_edge.specs.{Taps.peak_of, Taps.mirror_value, inner.Page.Shows}

-- TEXTS in a buffer

-- no text yet
pub shows_none : (out : List ℕ) → Shows (Some 0) out []
shows_none out = (refl, omega arith, refl)

-- an equal text, written differently
pub shows_as : (used : Option ℕ) (out a b : List ℕ) → a ≡ b → Shows used out a → Shows used out b
shows_as used out a b e h = subst (λ (text : List ℕ). Shows used out text) e h

-- the complete line of a peak
pub whole_line : (a b c d e : List ℕ) → ((((([] ++ a) ++ b) ++ c) ++ d) ++ e) ≡ a ++ (b ++ (c ++ (d ++ e)))
whole_line a b c d e = simp append_assoc

-- METERS

pub peak_more : (h : List ℤ) (z : ℤ) → peak_of (h ++ z ∷ []) ≡ max (peak_of h) (nat_abs z)
peak_more [] z = omega arith
peak_more (y ∷ h) z = omega (arith, peak_more h z)

-- one more of the values taken
pub told_more : (h frames : List ℤ) (i : ℕ) (z : ℤ) → i < length frames → z ≡ get_or frames i (pos 0)
    → (h ++ take i frames) ++ z ∷ [] ≡ h ++ take (i + 1) frames
told_more h frames i z lt e = grind (arith, common_steps, append_assoc, take_more)

one_value : (kept : List ℤ) (i : ℕ) (z : ℤ) → i < length kept → z ≡ get_or kept i (pos 0)
    → flat_map mirror_value (take (i + 1) kept) ≡ flat_map mirror_value (take i kept) ++ mirror_value z
one_value kept i z lt e = grind (arith, common_steps, append-nil, flat_map, flat_map-append, take_more)

-- one more of the values in a mirror's line
pub values_more : (text : List ℕ) (kept : List ℤ) (i : ℕ) (z : ℤ) → i < length kept → z ≡ get_or kept i (pos 0)
    → ((text ++ flat_map mirror_value (take i kept)) ++ codes " ") ++ signed_decimal z
    ≡ text ++ flat_map mirror_value (take (i + 1) kept)
values_more text kept i z lt e = grind (arith, common_steps, append_assoc, codes, flat_map, one_value)

-- all values of a mirror's line, and its end
pub values_end : (a b c : List ℕ) (kept : List ℤ) (i : ℕ) → length kept ≤ i
    → ((a ++ b) ++ flat_map mirror_value (take i kept)) ++ c ≡ a ++ (b ++ (flat_map mirror_value kept ++ c))
values_end a b c kept i h =
    ap (λ (l : List ℤ). ((a ++ b) ++ flat_map mirror_value l) ++ c) (take_all i kept h) ∙ simp append_assoc
