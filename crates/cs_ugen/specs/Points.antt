-- The points that units read of a table, followed by the guard point, as in cs_gen's `curve_of`.
use Rattle.std.specs.Prelude.{◌≡◌, ℕ, ◌+◌, ◌-◌, Bool, true, ◌==◌, List, length, ℤ, pos, negsuc, ◌≤ℤ◌, ◌+ℤ◌, ◌-ℤ◌, ◌*ℤ◌}
use Rattle.std.specs.List.{list_any}
use Rattle.cs_base.specs.Numbers.{floor_div, one}
use Rattle.cs_gen.specs.Faults.{lengths}
use Rattle.cs_signal.specs.Operands.{argument}

-- the number of points of a curve before its guard point
abbrev pub curve_len : List ℤ → ℕ
curve_len points = length points - 1

-- the powers of two that a table's length may be
abbrev pub is_len : ℕ → Bool
is_len n = list_any (λ len. n == len) lengths

-- the points of a curve: their number is a power of two from 2 to 65,536, and the guard point follows
pub record IsCurve (points : List ℤ) : Type 0 where
  pub power : is_len (curve_len points) ≡ true

-- a value that fits into 32 bits
abbrev pub IsShort : ℤ → Type 0
IsShort z = (negsuc 2147483647 ≤ℤ z) × (z ≤ℤ pos 2147483647)

-- all points fit into 32 bits
abbrev pub AreShort : List ℤ → Type 0
AreShort points = (place : ℕ) → IsShort (argument points place)

-- the value `fraction` 65,536ths of the way from p to q, rounded down
abbrev pub on_the_way : ℤ → ℤ → ℕ → ℤ
on_the_way p q fraction = p +ℤ floor_div ((q -ℤ p) *ℤ pos fraction) one

-- the curve between the point at a place and the next one; the guard point follows the last point
unfoldable pub between_points : List ℤ → ℕ → ℕ → ℤ
between_points points place fraction =
    on_the_way (argument points place) (argument points (place + 1)) fraction
