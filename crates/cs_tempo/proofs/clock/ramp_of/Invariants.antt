use Rattle.std.proofs.Common.{◌≤◌, ◌<◌, ◌-◌, length}
use Rattle.cs_tempo.specs.inner.Clock.{point_at}
use Rattle.cs_tempo.proofs.clock.ramp_of.Given as goal

abbrev pub invariant-loop-high : goal.invariant-loop-high
invariant-loop-high l = (l.low < l.high) × (l.high ≤ length l.points) × ((point_at l.points l.low).beat ≤ l.beat)

abbrev pub decreases-loop-high : goal.decreases-loop-high
decreases-loop-high l = l.high - l.low
