-- The bounds of quotients that are rounded down.
use Rattle.std.proofs.Common.{◌≡◌, ℕ, zero, suc, ◌*◌, ◌/◌, ◌<◌, ◌≤◌, ℤ, pos, negsuc, neg_ℤ, ◌+ℤ◌, ◌-ℤ◌, ◌*ℤ◌, ◌≤ℤ◌}
use Rattle.std.proofs.{Common.unsigned_abs, Common.arith, Common.subst, Common.refl, Math.Nat.div-le_of_le-mul}
use Rattle.std.proofs.lemmas.{Nat.le-div, Nat.mul-le, Nat.div_below, Int.ints, Int.unsigned_abs-mul}
use Rattle.cs_base.specs.Numbers.{IsRaw, floor_div}

-- a quotient is at most d if the number is at most d times the divisor
pub floor_div_le : (z d : ℤ) (n : ℕ) → 0 < n → z ≤ℤ (d *ℤ pos n) → floor_div z (pos n) ≤ℤ d
floor_div_le (pos a) (pos e) n some h =
    let small : a ≤ e * n = omega (arith, ints) in
    let q : a / n ≤ e = div-le_of_le-mul n (omega (arith, small)) in omega (arith, ints)
floor_div_le (pos a) (negsuc e) n some h =
    let big : n ≤ suc e * n = omega (arith, mul-le 1 n (suc e) n (omega arith) (omega arith)) in
    absurd (omega (arith, ints))
floor_div_le (negsuc a) (pos e) n some h = omega (arith, ints)
floor_div_le (negsuc a) (negsuc e) n some h =
    let big : e * n ≤ a = omega (arith, ints) in
    let q : e ≤ a / n = le-div e a n some big in omega (arith, ints)

-- a quotient is at least d if the number is at least d times the divisor
pub le-floor_div : (z d : ℤ) (n : ℕ) → 0 < n → (d *ℤ pos n) ≤ℤ z → d ≤ℤ floor_div z (pos n)
le-floor_div (pos a) (pos e) n some h =
    let small : e * n ≤ a = omega (arith, ints) in
    let q : e ≤ a / n = le-div e a n some small in omega (arith, ints)
le-floor_div (pos a) (negsuc e) n some h = omega (arith, ints)
le-floor_div (negsuc a) (pos e) n some h = absurd (omega (arith, ints))
le-floor_div (negsuc a) (negsuc e) n some h =
    let small : a < suc e * n = omega (arith, ints) in
    let q : a / n < suc e = div_below a n (suc e) some small in omega (arith, ints)

-- the product of a number within m and a number within n is within m * n
pub product_within : (x y : ℤ) (m n : ℕ) → unsigned_abs x ≤ m → unsigned_abs y ≤ n → unsigned_abs (x *ℤ y) ≤ m * n
product_within x y m n p q =
    let e = unsigned_abs-mul x y in
    let h : unsigned_abs x * unsigned_abs y ≤ m * n = mul-le (unsigned_abs x) (unsigned_abs y) m n p q in
    omega (arith, e, h)

-- a number whose absolute value is at most m is from -m to m
pub above_within : (z : ℤ) (m : ℕ) → unsigned_abs z ≤ m → neg_ℤ (pos m) ≤ℤ z
above_within (pos a) m h = omega (arith, ints)
above_within (negsuc a) m h = omega (arith, ints)

pub below_within : (z : ℤ) (m : ℕ) → unsigned_abs z ≤ m → z ≤ℤ pos m
below_within (pos a) m h = omega (arith, ints)
below_within (negsuc a) m h = omega (arith, ints)

pub within : (z : ℤ) (m : ℕ) → neg_ℤ (pos m) ≤ℤ z → z ≤ℤ pos m → unsigned_abs z ≤ m
within (pos a) m p q = omega (arith, ints)
within (negsuc a) m p q = omega (arith, ints)

neg_times : (m n : ℕ) → neg_ℤ (pos (m * n)) ≡ neg_ℤ (pos m) *ℤ pos n
neg_times zero n = omega (arith, ints)
neg_times (suc m) n = refl

-- if a number is within m * n, its quotient by n is within m
pub floor_div_within : (z : ℤ) (m n : ℕ) → 0 < n → unsigned_abs z ≤ m * n → unsigned_abs (floor_div z (pos n)) ≤ m
floor_div_within z m n some h =
    within (floor_div z (pos n)) m
    (le-floor_div z (neg_ℤ (pos m)) n some (subst (λ w. w ≤ℤ z) (neg_times m n) (above_within z (m * n) h)))
    (floor_div_le z (pos m) n some (below_within z (m * n) h))

-- j of n steps of the way from 0 to m, rounded down, is between 0 and m
pub part_way_up : (m j n : ℕ) → j < n
    → (pos 0 ≤ℤ floor_div (pos m *ℤ pos j) (pos n)) × (floor_div (pos m *ℤ pos j) (pos n) ≤ℤ pos m)
part_way_up m j n h =
    let some : 0 < n = omega arith in (
      omega (arith, ints),
      floor_div_le (pos m *ℤ pos j) (pos m) n some
          (let p : m * j ≤ m * n = mul-le m j m n (omega arith) (omega arith) in omega (arith, ints)),
    )

pub part_way_down : (m j n : ℕ) → j < n
    → (negsuc m ≤ℤ floor_div (negsuc m *ℤ pos j) (pos n)) × (floor_div (negsuc m *ℤ pos j) (pos n) ≤ℤ pos 0)
part_way_down m j n h =
    let some : 0 < n = omega arith in
    let p : suc m * j ≤ suc m * n = mul-le (suc m) j (suc m) n (omega arith) (omega arith) in (
      le-floor_div (negsuc m *ℤ pos j) (negsuc m) n some (omega (arith, ints)),
      floor_div_le (negsuc m *ℤ pos j) (pos 0) n some (omega (arith, ints)),
    )

-- a value on the way from a to b stays between the bounds of a and b
moved_up : (low high a b f : ℤ) (m : ℕ) → b -ℤ a ≡ pos m → pos 0 ≤ℤ f → f ≤ℤ pos m → low ≤ℤ a → b ≤ℤ high →
    (low ≤ℤ (a +ℤ f)) × ((a +ℤ f) ≤ℤ high)
moved_up low high a b f m e p q la hb = (omega (arith, ints), omega (arith, ints))

moved_down : (low high a b f : ℤ) (m : ℕ) → b -ℤ a ≡ negsuc m → negsuc m ≤ℤ f → f ≤ℤ pos 0 → low ≤ℤ b → a ≤ℤ high →
    (low ≤ℤ (a +ℤ f)) × ((a +ℤ f) ≤ℤ high)
moved_down low high a b f m e p q lb ha = (omega (arith, ints), omega (arith, ints))

on_rise : (low high a b d : ℤ) → b -ℤ a ≡ d → (j n : ℕ) → j < n → low ≤ℤ a → low ≤ℤ b → a ≤ℤ high → b ≤ℤ high →
    (low ≤ℤ (a +ℤ floor_div (d *ℤ pos j) (pos n))) × ((a +ℤ floor_div (d *ℤ pos j) (pos n)) ≤ℤ high)
on_rise low high a b (pos m) e j n h la lb ha hb =
    let part = part_way_up m j n h in moved_up low high a b (floor_div (pos m *ℤ pos j) (pos n)) m e part.0 part.1 la hb
on_rise low high a b (negsuc m) e j n h la lb ha hb =
    let part = part_way_down m j n h in moved_down low high a b (floor_div (negsuc m *ℤ pos j) (pos n)) m e part.0
    part.1 lb ha

-- a point on the line from a to b is at least every lower bound of both ends, and at most every upper bound
pub on_line : (low high a b : ℤ) (j n : ℕ) → j < n → low ≤ℤ a → low ≤ℤ b → a ≤ℤ high → b ≤ℤ high →
    (low ≤ℤ (a +ℤ floor_div ((b -ℤ a) *ℤ pos j) (pos n))) × ((a +ℤ floor_div ((b -ℤ a) *ℤ pos j) (pos n)) ≤ℤ high)
on_line low high a b j n h la lb ha hb = on_rise low high a b (b -ℤ a) refl j n h la lb ha hb

-- a number within m, divided by m in 65,536ths, is in range
pub ratio_in_range : (z : ℤ) (m : ℕ) → 0 < m → unsigned_abs z ≤ m → IsRaw (floor_div (z *ℤ pos 65536) (pos m))
ratio_in_range z m some h =
    let product : unsigned_abs (z *ℤ pos 65536) ≤ 65536 * m =
    omega (arith, product_within z (pos 65536) m 65536 h (omega arith)) in
    let small = floor_div_within (z *ℤ pos 65536) 65536 m some product in
    let low = above_within (floor_div (z *ℤ pos 65536) (pos m)) 65536 small in
    let high = below_within (floor_div (z *ℤ pos 65536) (pos m)) 65536 small in
    (omega (arith, ints, low), omega (arith, ints, high))
