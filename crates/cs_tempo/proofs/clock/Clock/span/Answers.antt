use Rattle.std.proofs.Common.{arith}
use Rattle.cs_time.proofs.Times.{time_grows}
use Rattle.cs_tempo.proofs.clock.Clock.span.Goals as goal

pub overflow_sub-result : goal.overflow_sub-result
overflow_sub-result c = omega (
  arith,
  time_grows c.args.self.now.tempo c.args.from c.args.to c.time.ensures.tempo c.requires.order,
  c.time.ensures.time,
  c.time-2.ensures.time,
)
