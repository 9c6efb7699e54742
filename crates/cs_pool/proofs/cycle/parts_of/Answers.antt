use Rattle.std.proofs.Common.{arith}
use Rattle.cs_pool.proofs.cycle.parts_of.Goals as goal

pub returns : goal.returns
returns c = omega (arith, c.saturating_sub.ensures, c.min.ensures)
