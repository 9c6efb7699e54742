use Rattle.cs_graph.specs.inner.Growing.{IsGrown}
use Rattle.cs_graph.proofs.growing.grow.Given as goal

abbrev pub invariant-loop-note : goal.invariant-loop-note
invariant-loop-note l = IsGrown l.feet l.note l.growing
