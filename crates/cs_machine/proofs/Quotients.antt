-- Quotients by a divisor that is held: their magnitudes.
use Rattle.std.proofs.Common.{◌≡◌, ℕ, ◌+◌, ◌*◌, ◌/◌, ◌<◌, ◌≤◌, ℤ, pos, negsuc, ◌≤ℤ◌, ◌*ℤ◌, unsigned_abs, false}
use Rattle.std.proofs.{Common.if◌then◌else◌, Common.ap, Common.◌∙◌, Common.arith, Math.Nat.mul-add, Math.Nat.mul_comm}
use Rattle.std.specs.Ordering.{int_eq}
use Rattle.std.proofs.lemmas.{Bool.Decides.nat_tests, Int.ints, Int.unsigned_abs-mul, Nat.div_below}
use Rattle.cs_base.specs.Numbers.{IsRaw, clamp, floor_div, one, quotient_by_zero, quotient_of}

once_more : (k d : ℕ) → (k + 1) * d ≡ k * d + d
once_more k d =
    let parts : (k + 1) * d ≡ d * k + d * 1 = mul_comm (k + 1) d ∙ mul-add d k 1 in
    let same : d * k ≡ k * d = mul_comm d k in
    omega (arith, parts, same)

-- if a number is at most k times the divisor, its quotient is at most k
floor_within : (n : ℤ) (d most : ℕ) → 0 < d → unsigned_abs n ≤ most * d → unsigned_abs (floor_div n (pos d)) ≤ most
floor_within (pos a) d most low h =
    let more : (most + 1) * d ≡ most * d + d = once_more most d in
    let below : a / d < most + 1 = div_below a d (most + 1) low (omega (arith, more, low, h)) in
    omega (arith, below)
floor_within (negsuc a) d most low h =
    let below : a / d < most = div_below a d most low (omega (arith, h)) in
    omega (arith, below)

raw_of_small : (z : ℤ) → unsigned_abs z ≤ 140737488355327 → IsRaw z
raw_of_small z h = (omega (arith, ints, h), omega (arith, ints, h))

-- a number within the reach of a divisor has a quotient in range
pub quotient_in_range : (x reach value : ℤ) → pos 1 ≤ℤ value → unsigned_abs x ≤ unsigned_abs reach
    → unsigned_abs reach * 65536 ≤ 140737488355327 * unsigned_abs value → IsRaw (floor_div (x *ℤ one) value)
quotient_in_range x reach (pos d) low near within =
    let size : unsigned_abs (x *ℤ one) ≡ unsigned_abs x * 65536 = unsigned_abs-mul x one in
    let some : 0 < d = omega (arith, ints, low) in
    raw_of_small (floor_div (x *ℤ one) (pos d))
    (floor_within (x *ℤ one) d 140737488355327 some (omega (arith, size, near, within)))
quotient_in_range x reach (negsuc d) low near within = absurd (omega (arith, ints, low))

not_zero : (d : ℕ) → 0 < d → int_eq (pos d) (pos 0) ≡ false
not_zero d h = grind (arith, ints, nat_tests)

-- the quotient by a value above 0 is the exact one, rounded down and clipped
pub quotient_is : (x value : ℤ) → pos 1 ≤ℤ value → quotient_of x value ≡ clamp (floor_div (x *ℤ one) value)
quotient_is x (pos d) low =
    ap (λ b. if b then quotient_by_zero x else clamp (floor_div (x *ℤ one) (pos d)))
    (not_zero d (omega (arith, ints, low)))
quotient_is x (negsuc d) low = absurd (omega (arith, ints, low))
