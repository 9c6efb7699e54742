use Rattle.std.proofs.Common.{◌≡◌, ◌+◌, drop}
use Rattle.cs_time.specs.Time.{time_along, Rises}
use Rattle.cs_time.proofs.time.time_along.Given as goal

abbrev pub invariant-loop-k : goal.invariant-loop-k
invariant-loop-k l = record {
  time : l.time + time_along (drop l.k l.points) l.beat ≡ time_along l.points l.beat;
  rises : Rises (drop l.k l.points);
}
