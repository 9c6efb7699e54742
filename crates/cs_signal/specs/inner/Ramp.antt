-- A straight line computed step by step without a division.
use Rattle.std.specs.Prelude.{List, length, map, take, unsigned_abs, ◌^◌, ◌*◌, ℕ, ◌≡◌, ◌⊎◌, ◌+◌, ◌-◌, ◌<◌, ◌≤◌, ℤ, pos}
use Rattle.std.specs.{Prelude.◌+ℤ◌, Prelude.◌-ℤ◌, Prelude.◌*ℤ◌, List.range_with_len}
use Rattle.cs_base.specs.Numbers.{clamp}
use Rattle.cs_signal.specs.Line.{part_way}

-- a number is `whole` times the divisor, plus a remainder below the divisor
pub record IsParted (number : ℤ) (divisor : ℕ) (whole : ℤ) (rest : ℕ) : Type 0 where
  pub sum : number ≡ (whole *ℤ pos divisor) +ℤ pos rest
  pub below : rest < divisor

-- the parts of the sum of two numbers, from the parts of both
abbrev pub IsAdvanced : ℕ → ℤ → ℕ → ℤ → ℕ → ℤ → ℕ → Type 0
IsAdvanced divisor whole rest by_whole by_rest new_whole new_rest =
    ((rest + by_rest < divisor) × (new_whole ≡ whole +ℤ by_whole) × (new_rest ≡ rest + by_rest))
    ⊎ ((divisor ≤ rest + by_rest) × (new_whole ≡ (whole +ℤ by_whole) +ℤ pos 1)
    × (new_rest ≡ (rest + by_rest) - divisor))

-- `count` values along a way of d parts, from part n on
abbrev pub ramp_of : ℤ → ℤ → ℕ → ℕ → ℕ → List ℤ
ramp_of from to n d count = map (λ i. clamp (part_way from to i d)) (range_with_len n count)

-- the first j values of a ramp are written, and the parts of the next rise are known
pub record HasRamped (from to : ℤ) (n d count j : ℕ) (whole : ℤ) (rest : ℕ) (out : List ℤ) : Type 0 where
  pub long : length out ≡ count
  pub done : take j out ≡ ramp_of from to n d j
  pub parts : IsParted ((to -ℤ from) *ℤ pos (n + j)) d whole rest
  pub bound : unsigned_abs whole ≤ 2 ^ 111 + 2 ^ 49 * j

-- the inverse of a divisor in 2^64ths, rounded up
abbrev pub IsInverse : ℕ → ℕ → Type 0
IsInverse d inverse = (18446744073709551616 ≤ inverse * d) × (inverse * d < 18446744073709551616 + d)

-- the first j values of a ramp are written, and `at` is the next one in 2^64ths: `whole`, and `over` parts of
-- the divisor
pub record HasRisen (from to : ℤ) (n d inverse count j : ℕ) (at : ℤ) (out : List ℤ) : Type 0 where
  pub long : length out ≡ count
  pub done : take j out ≡ ramp_of from to n d j
  pub whole : ℤ
  pub over : ℕ
  pub told : at ≡ (whole *ℤ pos 18446744073709551616) +ℤ pos (over * inverse)
  pub sum : (to -ℤ from) *ℤ pos (n + j) ≡ ((whole -ℤ from) *ℤ pos d) +ℤ pos over
  pub few : over < (j + 1) * d
  pub bound : unsigned_abs at < 2 ^ 113 * (j + 1)
