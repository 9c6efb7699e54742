-- A walk along GEN07's segments, from place to place.
use Rattle.std.specs.Prelude.{ℕ, ◌≡◌, ◌+◌, ◌<◌, ◌≤◌, List, ℤ}
use Rattle.cs_gen.specs.{Faults.segments_of, Points.begin_of}

-- the walk has reached segment k, which begins at place `begin`; all segments before it end at or before
-- place j
pub record HasPassed (args : List ℤ) (j k begin : ℕ) : Type 0 where
  pub begins : begin ≡ begin_of args k
  pub real : k ≤ segments_of args
  pub passed : (i : ℕ) → i < k → begin_of args (i + 1) ≤ j

-- the walk has reached the segment that contains place j, or the end of the last segment
pub record HasReached (args : List ℤ) (j k begin : ℕ) : Type 0 where
  pub come : HasPassed args j k begin
  pub inside : k < segments_of args → j < begin_of args (k + 1)
