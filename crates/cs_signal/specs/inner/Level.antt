-- The parts of a linen: the rise, the decay, and the level part between them, in which both factors are 1.
use Rattle.std.specs.Prelude.{ℕ, ◌≡◌, ◌⊎◌, ◌+◌, ◌≤◌, ◌<◌, List, length, map, take, ℤ}
use Rattle.std.specs.List.{range_with_len}
use Rattle.cs_signal.specs.{Linen.LinenState, Pace.last_number}

-- the next n steps are after the rise and before the decay
pub record IsLevel (s : LinenState) (n : ℕ) : Type 0 where
  pub room : s.number + n ≤ last_number
  pub risen : s.rise ≤ s.number
  pub before : (s.decay ≡ 0) ⊎ (s.number + n + s.decay ≤ s.duration)

-- the next n steps are in the rise, before the decay begins
pub record IsRising (s : LinenState) (n : ℕ) : Type 0 where
  pub begun : s.number < s.rise
  pub room : s.number + n ≤ last_number
  pub rising : s.number + n ≤ s.rise
  pub before : (s.decay ≡ 0) ⊎ (s.number + n + s.decay ≤ s.duration)

-- the next n steps are after the rise, in the decay
pub record IsFalling (s : LinenState) (n : ℕ) : Type 0 where
  pub room : s.number + n ≤ last_number
  pub risen : s.rise ≤ s.number
  pub some : 0 < s.decay
  pub falling : s.duration ≤ s.number + s.decay
  pub near : s.number ≤ s.duration

-- the first j of `count` values of a formula are written
pub record HasFilled (formula : ℕ → ℤ) (count j : ℕ) (out : List ℤ) : Type 0 where
  pub long : length out ≡ count
  pub done : take j out ≡ map formula (range_with_len 0 j)
