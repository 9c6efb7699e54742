use Rattle.std.proofs.Common.{◌≡◌, ◌-◌}
use Rattle.cs_tempo.specs.inner.Clock.{point_at, AreTimes}
use Rattle.cs_time.specs.Time.{time_along}
use Rattle.cs_tempo.proofs.clock.times_of.Given as goal

abbrev pub invariant-loop-k : goal.invariant-loop-k
invariant-loop-k l = record {
  times : AreTimes l.points l.k l.times.items;
  before : l.time ≡ time_along l.points (point_at l.points (l.k - 1)).beat;
}
