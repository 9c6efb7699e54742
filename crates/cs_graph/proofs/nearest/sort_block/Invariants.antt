use Rattle.std.proofs.Common.{◌≤◌, length}
use Rattle.cs_graph.specs.inner.Nearest.{IsFound}
use Rattle.cs_graph.proofs.nearest.sort_block.Given as goal

abbrev pub invariant-loop-q : goal.invariant-loop-q
invariant-loop-q l = (l.from ≤ l.q) × IsFound l.met l.known l.q (length l.known) l.found
