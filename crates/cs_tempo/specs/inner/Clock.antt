-- The view of a clock in contracts.
use Rattle.std.specs.Prelude.{◌≡◌, ℕ, ◌<◌, List, length, slice_index, slice_index_or}
use Rattle.cs_base.specs.declared.head.Head.{Head}
use Rattle.cs_score.specs.declared.statement.TempoPoint.{TempoPoint}
use Rattle.cs_time.specs.Time.{time_along, IsTempo}

-- the data that map beats to cycles in a section: the piece's head and the section's tempo
pub record Pace : Type 0 where
  pub head : Head
  pub tempo : List TempoPoint

-- the point of a tempo at an index
abbrev pub point_at : List TempoPoint → ℕ → TempoPoint
point_at tempo k = slice_index_or tempo k (record { beat = 0; tempo = 0 })

-- the time of each of the first n points of a tempo
pub record AreTimes (tempo : List TempoPoint) (n : ℕ) (times : List ℕ) : Type 0 where
  pub long : length times ≡ n
  pub each : (k : ℕ) → k < n → slice_index times k ≡ time_along tempo (point_at tempo k).beat

-- the invariant of every clock
pub record IsTimed (points : List TempoPoint) (times : List ℕ) : Type 0 where
  pub tempo : IsTempo points
  pub known : AreTimes points (length points) times
