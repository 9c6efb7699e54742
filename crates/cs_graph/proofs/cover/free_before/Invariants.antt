use Rattle.cs_graph.specs.inner.Covering.{AreTaken}
use Rattle.cs_graph.proofs.cover.free_before.Given as goal

abbrev pub invariant-loop-edge : goal.invariant-loop-edge
invariant-loop-edge l = AreTaken l.edges l.continued l.fn.range.0 l.edge
