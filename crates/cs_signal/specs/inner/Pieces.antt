-- A walk along the segments of a linseg.
use Rattle.std.specs.Prelude.{ℕ, ◌≡◌, ◌+◌, ◌<◌, ◌≤◌, List, length, slice_index}
use Rattle.cs_signal.specs.Linseg.{begin_of}

-- the segments before segment k end at or before step n, and segment k begins at step `begin`
pub record HasPassed (lengths : List ℕ) (n k begin : ℕ) : Type 0 where
  pub begins : begin_of lengths k ≡ begin
  pub come : begin ≤ n
  pub passed : (i : ℕ) → i < k → begin_of lengths (i + 1) ≤ n

-- step n is in segment k, which begins at step `begin`; or it is after the last segment, and k is the number
-- of segments
pub record IsPlace (lengths : List ℕ) (n k begin : ℕ) : Type 0 where
  pub come : HasPassed lengths n k begin
  pub real : k ≤ length lengths
  pub inside : k < length lengths → n < begin + slice_index lengths k
