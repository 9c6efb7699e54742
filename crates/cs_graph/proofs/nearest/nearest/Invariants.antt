use Rattle.std.proofs.Common.{◌*◌}
use Rattle.std.specs.Prelude.{min}
use Rattle.cs_graph.specs.inner.Nearest.{IsFound}
use Rattle.cs_graph.proofs.nearest.nearest.Given as goal

abbrev pub invariant-loop-block : goal.invariant-loop-block
invariant-loop-block l = IsFound l.met l.known (min l.note (l.block * 64)) l.note l.found
