-- The numbers of the profile, in 65,536ths, and each operation as a formula over unbounded integers.
use Rattle.std.specs.Prelude.{ℤ, List, [], ◌∷◌, pos, negsuc, ◌≤ℤ◌, ◌+ℤ◌, ◌-ℤ◌, ◌*ℤ◌, neg_ℤ, suc, if◌then◌else◌}
use Rattle.std.specs.{Prelude.unsigned_abs, Ordering.int_eq}
use Rattle.std.specs.Int.{int_max, int_min, int_div_euclid, is_positive, is_negative}

-- the least raw value: -2^47
abbrev pub least : ℤ
least = negsuc 140737488355327

-- the greatest raw value: 2^47 - 1
abbrev pub greatest : ℤ
greatest = pos 140737488355327

-- the range of raw values
abbrev pub IsRaw : ℤ → Type 0
IsRaw z = (least ≤ℤ z) × (z ≤ℤ greatest)

-- an integer, clamped to that range
abbrev pub clamp : ℤ → ℤ
clamp z = int_max least (int_min z greatest)

-- one, in 65,536ths
abbrev pub one : ℤ
one = pos 65536

-- n / d rounded down, if d is not 0
abbrev pub floor_div : ℤ → ℤ → ℤ
floor_div n (pos d) = int_div_euclid n (pos d)
floor_div n (negsuc d) = int_div_euclid (neg_ℤ n) (pos (suc d))

-- the sum of integers, without bounds
abbrev pub total : List ℤ → ℤ
total [] = pos 0
total (z ∷ zs) = z +ℤ total zs

-- x + y
abbrev pub sum_of : ℤ → ℤ → ℤ
sum_of x y = clamp (x +ℤ y)

-- x - y
abbrev pub difference_of : ℤ → ℤ → ℤ
difference_of x y = clamp (x -ℤ y)

-- x * y, rounded down to 65,536ths
abbrev pub product_of : ℤ → ℤ → ℤ
product_of x y = clamp (floor_div (x *ℤ y) one)

-- x / 0: the greatest number, the least number or 0, by the sign of x
abbrev pub quotient_by_zero : ℤ → ℤ
quotient_by_zero x = if is_positive x then greatest else (if is_negative x then least else pos 0)

-- x / y, rounded down to 65,536ths
abbrev pub quotient_of : ℤ → ℤ → ℤ
quotient_of x y = if int_eq y (pos 0) then quotient_by_zero x else clamp (floor_div (x *ℤ one) y)

-- the remainder of x / y rounded down to an integer; 0 if y is 0
abbrev pub remainder_of : ℤ → ℤ → ℤ
remainder_of x y = if int_eq y (pos 0) then pos 0 else x -ℤ (y *ℤ floor_div x y)

-- the greatest integer that is at most x
abbrev pub whole_below : ℤ → ℤ
whole_below x = floor_div x one

-- the greatest integer that is at most x, as a number of the profile
abbrev pub floor_of : ℤ → ℤ
floor_of x = whole_below x *ℤ one

-- x without its fraction: rounded down if x is 0 or greater, and up if it is negative
abbrev pub int_of : ℤ → ℤ
int_of x = if is_negative x then clamp (neg_ℤ (floor_of (neg_ℤ x))) else floor_of x

-- the fraction that `int_of` drops, with the sign of x
abbrev pub frac_of : ℤ → ℤ
frac_of x = x -ℤ int_of x

-- the absolute value of x
abbrev pub abs_of : ℤ → ℤ
abs_of x = clamp (pos (unsigned_abs x))
