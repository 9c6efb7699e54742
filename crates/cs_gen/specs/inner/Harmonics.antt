-- GEN10 step by step: one harmonic after another is added to all points.
use Rattle.std.specs.Prelude.{ℕ, ◌≡◌, ◌+◌, ◌-◌, ◌*◌, ◌/◌, ◌^◌, ◌<◌, ◌≤◌, List, length, map, ℤ, ◌+ℤ◌, ◌*ℤ◌, unsigned_abs}
use Rattle.std.specs.{Prelude.slice_index_or, List.All, List.range_with_len}
use Rattle.cs_base.specs.Numbers.{floor_div, total}
use Rattle.cs_gen.specs.{Faults.argument, Points.full_scale, Points.sine, Points.wave}

-- the heights of the sine wave at `len` places of its period, none higher than its crest
pub record AreHeights (len : ℕ) (heights : List ℤ) : Type 0 where
  pub long : length heights ≡ len
  pub each : (p : ℕ) (d : ℤ) → p < len → slice_index_or heights p d ≡ wave (p * 2 ^ 24 / len)
  pub low : All (λ h. unsigned_abs h ≤ 32767) heights

-- harmonic h of a table of len points at place j, times a strength
unfoldable pub harmonic : ℕ → ℕ → ℤ → ℕ → ℤ
harmonic len h strength j = floor_div (strength *ℤ sine len h j) full_scale

-- the number at each place j is increased by `by j`, whose absolute value is within the range of a number
pub record AreRaised (by : ℕ → ℤ) (old new : List ℤ) : Type 0 where
  pub long : length new ≡ length old
  pub each : (j : ℕ) (d : ℤ) → j < length old → slice_index_or new j d ≡ slice_index_or old j d +ℤ by j
  pub low : (j : ℕ) → j < length old → unsigned_abs (by j) ≤ 2 ^ 47

-- the sum of the first i harmonics at place j
unfoldable pub first_harmonics : ℕ → List ℤ → ℕ → ℕ → ℤ
first_harmonics len strengths i j =
    total (map (λ h. harmonic len h (argument strengths (h - 1)) j) (range_with_len 1 i))

-- the sums of the first i harmonics at places 0 to n - 1
pub record AreSums (len : ℕ) (strengths : List ℤ) (i n : ℕ) (sums : List ℤ) : Type 0 where
  pub long : length sums ≡ n
  pub each : (j : ℕ) (d : ℤ) → j < n → slice_index_or sums j d ≡ first_harmonics len strengths i j
  pub low : All (λ z. unsigned_abs z ≤ i * 2 ^ 47) sums
