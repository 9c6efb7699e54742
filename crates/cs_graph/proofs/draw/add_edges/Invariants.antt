use Rattle.std.proofs.Common.{◌*◌}
use Rattle.std.specs.Prelude.{min}
use Rattle.cs_graph.specs.inner.Growing.{AreDrawnTo}
use Rattle.cs_graph.proofs.draw.add_edges.Given as goal

abbrev pub invariant-loop-block : goal.invariant-loop-block
invariant-loop-block l = AreDrawnTo l.initial.edges.items l.near l.note (min l.note (l.block * 64)) l.edges.items
