-- The frame law of voices.
use Rattle.std.proofs.lemmas.{Grind.common_steps, List.length-map, Bool.Decides.nat_tests}
use Rattle.std.proofs.Common.{◌≡◌, ℕ, ℤ, pos, zero, suc, ◌+◌, ◌<◌, ◌≤◌, true, false, ◌∷◌, map, length, nat_lt, []}
use Rattle.std.proofs.Common.{if◌then◌else◌, refl, sym, ◌∙◌, ap, arith}
use Rattle.std.specs.List.{range_with_len}
use Rattle.cs_base.proofs.Tests.{by_test}
use Rattle.cs_cells.specs.{Cells.Cells, Cells.cell, Cells.Agree, Meaning.Uses, Meaning.Writes, Meaning.Frames}
use Rattle.cs_voice_meaning.specs.Voices.{Sounding, may_write, seen, cycle, voice_of, performed, left_by, IsSound}
use Rattle.cs_voice_meaning.specs.Voices.{voice_means}

long_range : (j n : ℕ) → length (range_with_len j n) ≡ n
long_range j zero = refl
long_range j (suc n) = ap suc (long_range (j + 1) n)

long_map : (f : ℕ → ℤ) (j n : ℕ) → length (map f (range_with_len j n)) ≡ n
long_map f j n = length-map (range_with_len j n) f ∙ long_range j n

pub tabled : (f : ℕ → ℤ) (j n a : ℕ) → a < n → cell (map f (range_with_len j n)) a ≡ f (j + a)
tabled f j zero a h = absurd (omega arith)
tabled f j (suc n) zero h = ap f (let e : j ≡ j + 0 = omega arith in e)
tabled f j (suc n) (suc a) h =
    tabled f (j + 1) n a (omega arith) ∙ ap f (let e : j + 1 + a ≡ j + suc a = omega arith in e)

pub past_cells : (c : Cells) (a : ℕ) → length c ≤ a → cell c a ≡ pos 0
past_cells [] a h = refl
past_cells (z ∷ c) zero h = absurd (omega arith)
past_cells (z ∷ c) (suc a) h = past_cells c a (omega arith)

low : (a n : ℕ) → nat_lt a n ≡ true → a < n
low a n h = grind (arith, nat_tests)

high : (a n : ℕ) → nat_lt a n ≡ false → n ≤ a
high a n h = grind (arith, nat_tests)

-- a voice sees the same of cells that agree where it may use them
seen_same : (v : Sounding) (c d : Cells) → Agree (Uses voice_means v) c d
    → seen v.sheet (cell c) ≡ seen v.sheet (cell d)
seen_same v c d same = grind (arith, common_steps, by_test)

pub left_at : (v : Sounding) (c : Cells) (a : ℕ) → a < length c
    → cell (left_by v c) a ≡ (if may_write v.sheet a then (cycle v (seen v.sheet (cell c))).world.shared a else cell c
    a)
left_at v c a h = grind (arith, common_steps, tabled)

left_long : (v : Sounding) (c : Cells) → length (left_by v c) ≡ length c
left_long v c = long_map _ _ _

left_past : (v : Sounding) (c : Cells) (a : ℕ) → length c ≤ a → cell (left_by v c) a ≡ pos 0
left_past v c a h = let long = left_long v c in past_cells (left_by v c) a (omega (arith, long, h))

left_same : (v : Sounding) (c d : Cells) → Agree (Uses voice_means v) c d → (a : ℕ) → Uses voice_means v a
    → cell (left_by v c) a ≡ cell (left_by v d) a
left_same v c d same a used =
    by_test (nat_lt a (length c))
    (λ yes. let near : a < length c = low a (length c) yes in let near' : a < length d =
    omega (arith, near, same.long) in
    left_at v c a near
    ∙ ap (λ s. if may_write v.sheet a then (cycle v s).world.shared a else cell c a) (seen_same v c d same)
    ∙ ap (λ z. if may_write v.sheet a then (cycle v (seen v.sheet (cell d))).world.shared a else z) (same.same a used)
    ∙ sym (left_at v d a near'))
    (λ no. let far : length c ≤ a = high a (length c) no in let far' : length d ≤ a = omega (arith, far, same.long) in
    left_past v c a far ∙ sym (left_past v d a far'))

left_others : (v : Sounding) (c : Cells) (a : ℕ) → ¬ (Writes voice_means v a) → cell (left_by v c) a ≡ cell c a
left_others v c a un = grind (arith, common_steps, by_test, high, left_at, left_past, low, nat_lt, past_cells)

after_same : (v : Sounding) (c d : Cells) → Agree (Uses voice_means v) c d → performed v c ≡ performed v d
after_same v c d same = let next : (ℕ → ℤ) → Sounding =
    λ z. voice_of v.sheet (cycle v z) in ap next (seen_same v c d same)

still_sound : (v : Sounding) (c : Cells) → IsSound v → IsSound (performed v c)
still_sound v c s = s

pub voice_frames : Frames voice_means
voice_frames = grind (arith, common_steps, after_same, left_long, left_others, left_same, still_sound)
