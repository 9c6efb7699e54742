use Rattle.std.proofs.Common.{arith, ap, length}
use Rattle.cs_tempo.proofs.Clocks.{first_time}
use Rattle.cs_tempo.proofs.clock.times_of.Goals as goal

pub loop-k-init : goal.loop-k-init
loop-k-init c = record {
  times = record { long = ap length c.new-times.ensures.items; each = λ k h. absurd (omega arith) };
  before = first_time c.args.points.now c.requires;
}
