-- Full scale: the level of a mix value is in the range of samples if and only if the value is within full
-- scale.
use Rattle.std.proofs.lemmas.{Grind.common_steps, Nat.mul-le}
use Rattle.std.proofs.Common.{◌≡◌, ◌≤◌, ◌<◌, ◌≤ℤ◌, ◌<ℤ◌, ◌*ℤ◌, ℕ, ◌+◌, ◌*◌, ◌^◌, ℤ, pos, negsuc, neg_ℤ, of_z, to_z, w64}
use Rattle.std.proofs.Common.{true, false, refl, subst, arith}
use Rattle.std.proofs.lemmas.Int.{ints, clamps, by_lt_z, unsigned_abs-mul, fits_signed_from_abs, to_z-of_z}
use Rattle.std.specs.{Int.int_div_euclid, Int.RustNames.FitsSigned}
use Rattle.std.specs.Prelude.{int_lt, ◌||◌, Bool, not, unsigned_abs, if◌then◌else◌}
use Rattle.cs_base.specs.{Numbers.floor_div, Widths.greatest_of, Widths.least_of}
use Rattle.cs_base.specs.declared.width.SampleWidth.{SampleWidth}
use Rattle.cs_base.proofs.Quotients.{floor_div-lt, le-floor_div}
use Rattle.cs_wav.specs.Wav.{full_scale, level, sample, is_out_of_range}
use Rattle.cs_wav.proofs.Samples.{least_is, greatest_is, range_is}
use Rattle.cs_base.specs.declared.width.SampleWidth.TheVariants as width

or_true : (b : Bool) → (b || true) ≡ true
or_true true = refl
or_true false = refl

-- the order of two numbers, as a test reports it
lt_true : (x y : ℤ) → x <ℤ y → int_lt x y ≡ true
lt_true x y h = grind (arith, ints)

lt_false : (x y : ℤ) → y ≤ℤ x → int_lt x y ≡ false
lt_false x y h = grind (arith, ints)

le_of_lt : (z : ℤ) (k : ℕ) → z <ℤ pos (k + 1) → z ≤ℤ pos k
le_of_lt z k h = omega (arith, ints, h)

lt_of_le : (z : ℤ) (k : ℕ) → pos (k + 1) ≤ℤ z → pos k <ℤ z
lt_of_le z k h = omega (arith, ints, h)

-- the level of a value within full scale is in the range of samples
in_range : (w : SampleWidth) (d : ℕ) (mix : ℤ) → 0 < d → neg_ℤ (pos d) ≤ℤ mix → mix <ℤ pos d
    → (least_of w ≤ℤ level w (pos d) mix) × (level w (pos d) mix ≤ℤ greatest_of w)
in_range width.TwoBytes d mix some low high = grind (arith, common_steps, floor_div-lt, ints, le-floor_div, le_of_lt)
in_range width.ThreeBytes d mix some low high = grind (arith, common_steps, floor_div-lt, ints, le-floor_div, le_of_lt)

pub level_in_range : (w : SampleWidth) (dbfs mix : ℤ) → pos 1 ≤ℤ dbfs → neg_ℤ dbfs ≤ℤ mix → mix <ℤ dbfs
    → (least_of w ≤ℤ level w dbfs mix) × (level w dbfs mix ≤ℤ greatest_of w)
level_in_range w (pos d) mix one low high = in_range w d mix (omega (arith, ints, one)) low high
level_in_range w (negsuc d) mix one low high = absurd (omega (arith, ints, one))

pub end_in_range : (w : SampleWidth) (b : Bool) (z : ℤ) → z ≡ (if b then least_of w else greatest_of w)
    → (least_of w ≤ℤ z) × (z ≤ℤ greatest_of w)
end_in_range w true z e = let order = range_is w in (omega (arith, ints, e), omega (arith, ints, e, order))
end_in_range w false z e = let order = range_is w in (omega (arith, ints, e, order), omega (arith, ints, e))

-- the level of a value below full scale is below that range
below_range : (w : SampleWidth) (d : ℕ) (mix : ℤ) → 0 < d → mix <ℤ neg_ℤ (pos d) → level w (pos d) mix <ℤ least_of w
below_range width.TwoBytes d mix some low =
    floor_div-lt (mix *ℤ pos 32768) (neg_ℤ (pos 32768)) d some (omega (arith, ints, low))
below_range width.ThreeBytes d mix some low =
    floor_div-lt (mix *ℤ pos 8388608) (neg_ℤ (pos 8388608)) d some (omega (arith, ints, low))

-- the level of a value at or above full scale is above that range
above_range : (w : SampleWidth) (d : ℕ) (mix : ℤ) → 0 < d → pos d ≤ℤ mix → greatest_of w <ℤ level w (pos d) mix
above_range width.TwoBytes d mix some high =
    lt_of_le (floor_div (mix *ℤ pos 32768) (pos d)) 32767
    (le-floor_div (mix *ℤ pos 32768) (pos 32768) d some (omega (arith, ints, high)))
above_range width.ThreeBytes d mix some high =
    lt_of_le (floor_div (mix *ℤ pos 8388608) (pos d)) 8388607
    (le-floor_div (mix *ℤ pos 8388608) (pos 8388608) d some (omega (arith, ints, high)))

-- so the test of the range can be done on the value
pub within : (w : SampleWidth) (dbfs mix : ℤ) → pos 1 ≤ℤ dbfs → neg_ℤ dbfs ≤ℤ mix → mix <ℤ dbfs
    → (is_out_of_range w dbfs mix ≡ false) × (sample w dbfs mix ≡ level w dbfs mix)
within w (pos d) mix one low high =
    let at : ℤ = level w (pos d) mix in
    let range = in_range w d mix (omega (arith, ints, one)) low high in
    let no : is_out_of_range w (pos d) mix ≡ false =
    λ i. lt_false at (least_of w) range.0 i || lt_false (greatest_of w) at range.1 i in
    let is : sample w (pos d) mix ≡ at = omega (arith, ints, clamps, range.0, range.1) in
    (no, is)
within w (negsuc d) mix one low high = absurd (omega (arith, ints, one))

pub below : (w : SampleWidth) (dbfs mix : ℤ) → pos 1 ≤ℤ dbfs → mix <ℤ neg_ℤ dbfs → is_out_of_range w dbfs mix ≡ true
below w (pos d) mix one low = grind (arith, common_steps, below_range, ints, lt_true)
below w (negsuc d) mix one low = absurd (omega (arith, ints, one))

pub above : (w : SampleWidth) (dbfs mix : ℤ) → pos 1 ≤ℤ dbfs → dbfs ≤ℤ mix → is_out_of_range w dbfs mix ≡ true
above w (pos d) mix one high = grind (arith, common_steps, above_range, ints, lt_true, or_true)
above w (negsuc d) mix one high = absurd (omega (arith, ints, one))

pub is_within : (w : SampleWidth) (dbfs mix : ℤ) → pos 1 ≤ℤ dbfs → neg_ℤ dbfs ≤ℤ mix
    → int_lt mix dbfs ≡ not (is_out_of_range w dbfs mix)
is_within w dbfs mix one low = grind (arith, common_steps, above, by_lt_z, lt_false, lt_true, within)

-- a sample is in range, and the level of a value within full scale is small
sample_in_range : (w : SampleWidth) (dbfs mix : ℤ)
    → (least_of w ≤ℤ sample w dbfs mix) × (sample w dbfs mix ≤ℤ greatest_of w)
sample_in_range w dbfs mix =
    let order = range_is w in (omega (arith, ints, clamps, order), omega (arith, ints, clamps, order))

pub level_small : (w : SampleWidth) (dbfs mix : ℤ) → pos 1 ≤ℤ dbfs → neg_ℤ dbfs ≤ℤ mix → mix <ℤ dbfs
    → unsigned_abs (level w dbfs mix) < 2 ^ 62
level_small w dbfs mix one low high =
    let is = (within w dbfs mix one low high).1 in
    let range = sample_in_range w dbfs mix in
    let least = least_is w in
    let greatest = greatest_is w in
    subst (λ z. unsigned_abs z < 2 ^ 62) is (omega (arith, ints, range.0, range.1, least, greatest))

-- the product of full scale and a value within it is at most the product of full scale and `dbfs` in absolute
-- value
pub near_product : (w : SampleWidth) (divisor dbfs mix : ℤ) → divisor ≡ dbfs → pos 1 ≤ℤ dbfs → neg_ℤ dbfs ≤ℤ mix
    → mix <ℤ dbfs → unsigned_abs (divisor *ℤ full_scale w) ≤ 2 ^ 61
    → FitsSigned w64 (mix *ℤ full_scale w) × (unsigned_abs (mix *ℤ full_scale w) ≤ 2 ^ 61)
near_product w divisor dbfs mix known one low high most =
    grind (arith, common_steps, fits_signed_from_abs, ints, mul-le, unsigned_abs-mul, w64)

full_scale-fits : (w : SampleWidth) → FitsSigned w64 (full_scale w)
full_scale-fits width.TwoBytes = fits_signed_from_abs w64 (pos 32768) (omega arith)
full_scale-fits width.ThreeBytes = fits_signed_from_abs w64 (pos 8388608) (omega arith)

pub floor_is : (n dbfs : ℤ) → pos 1 ≤ℤ dbfs → floor_div n dbfs ≡ int_div_euclid n dbfs
floor_is n (pos d) one = refl
floor_is n (negsuc d) one = absurd (omega (arith, ints, one))

pub product_is : (w : SampleWidth) (mix full : ℤ) → FitsSigned w64 mix → full ≡ full_scale w
    → to_z w64 (of_z w64 mix) *ℤ to_z w64 (of_z w64 full) ≡ mix *ℤ full_scale w
product_is w mix full fits is = grind (arith, common_steps, full_scale-fits, of_z, to_z, to_z-of_z, w64)

-- below, within or above full scale, whatever the width
pub out_alike : (one other : SampleWidth) (dbfs mix : ℤ) → pos 1 ≤ℤ dbfs
    → is_out_of_range one dbfs mix ≡ is_out_of_range other dbfs mix
out_alike one other dbfs mix some = grind (arith, common_steps, above, below, ints, within)
