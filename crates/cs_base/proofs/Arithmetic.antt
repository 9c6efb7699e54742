-- The laws of numbers, over unbounded integers.
use Rattle.std.proofs.Common.{◌≡◌, ℕ, zero, suc, ◌<◌, ℤ, pos, negsuc, neg_ℤ, ◌+ℤ◌, ◌-ℤ◌, ◌*ℤ◌, ◌≤ℤ◌, ◌<ℤ◌, Bool, true}
use Rattle.std.proofs.Common.{false, arith, refl, subst, ◌≤◌, ◌&&◌, nat_le, if◌then◌else◌, List, Some, None}
use Rattle.cs_base.specs.Decimals.{decimal_of, raw_of_decimal, is_numeral, whole_part, billionths_part, greatest_whole}
use Rattle.cs_base.specs.{Decimals.after_point, declared.decimal.Decimal.Decimal}
use Rattle.cs_base.proofs.Digits.{billionths_below}
use Rattle.std.specs.{List.list_all, Char.is_ascii_digit, Ordering.int_eq}
use Rattle.std.proofs.lemmas.{Bool.and_parts, Bool.Decides.nat_tests, Int.ints, Int.clamps, Int.by_lt_z}
use Rattle.std.specs.Int.{int_div_euclid, int_rem_euclid, is_negative, is_positive}
use Rattle.cs_base.specs.Numbers.{IsRaw, clamp, least, greatest, one, floor_div, quotient_by_zero, quotient_of}
use Rattle.cs_base.specs.Numbers.{remainder_of, floor_of, int_of, frac_of}

pub clamp_in_range : (z : ℤ) → IsRaw (clamp z)
clamp_in_range z = (omega (arith, ints, clamps), omega (arith, ints, clamps))

pub clamp_same : (z : ℤ) → IsRaw z → clamp z ≡ z
clamp_same z h = omega (arith, ints, clamps)

-- the remainder of a quotient rounded down is the Euclidean remainder
pub left_over : (n : ℤ) (d : ℕ) → 0 < d → n -ℤ (pos d *ℤ int_div_euclid n (pos d)) ≡ int_rem_euclid n (pos d)
left_over (pos a) d h = omega (arith, ints)
left_over (negsuc a) d h = omega (arith, ints)

neg_product : (d : ℕ) (q : ℤ) → negsuc d *ℤ q ≡ neg_ℤ (pos (suc d) *ℤ q)
neg_product d (pos q) = omega (arith, ints)
neg_product d (negsuc q) = omega (arith, ints)

-- for a negative divisor, negating the remainder of the two negated numbers yields the remainder
pub left_over_flipped : (x y : ℤ) → y <ℤ pos 0 → neg_ℤ (int_rem_euclid (neg_ℤ x) (neg_ℤ y)) ≡ remainder_of x y
left_over_flipped x (pos d) h = absurd (omega (arith, ints))
left_over_flipped x (negsuc d) h =
    let left = left_over (neg_ℤ x) (suc d) (omega arith) in
    let flip = neg_product d (int_div_euclid (neg_ℤ x) (pos (suc d))) in
    omega (arith, ints, left, flip)

sums_back : (x y : ℤ) → y +ℤ (x -ℤ y) ≡ x
sums_back x y = omega (arith, ints)

pub int_and_frac : (x : ℤ) → int_of x +ℤ frac_of x ≡ x
int_and_frac x = sums_back x (int_of x)

where_some : {A : Type 0} (b : Bool) (x d : A) → (if b then Some x else None) ≡ Some d → (b ≡ true) × (x ≡ d)
where_some true x d h = (refl, cc)
where_some false x d h = cc

-- the value of a decimal in a text needs no clamping
pub decimal_in_range : (text : List ℕ) (d : Decimal) → decimal_of text ≡ Some d → IsRaw (raw_of_decimal d)
decimal_in_range text d h =
    let made : Decimal = record { whole = whole_part text; billionths = billionths_part text } in
    let both = where_some (is_numeral text && nat_le (whole_part text) greatest_whole) made d h in
    let parts = and_parts (is_numeral text) (nat_le (whole_part text) greatest_whole) both.0 in
    let digits = and_parts _ (list_all is_ascii_digit (after_point text)) parts.0 in
    let below = billionths_below (after_point text) digits.1 in
    let most : whole_part text ≤ greatest_whole = grind (arith, nat_tests, parts.1) in
    subst (λ x. IsRaw (raw_of_decimal x)) both.1 (omega (arith, ints), omega (arith, ints, below))
