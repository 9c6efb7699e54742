use Rattle.std.proofs.Common.{ℕ, List}
use Rattle.cs_graph.specs.inner.Growing.{AreDrawnTo}
use Rattle.cs_graph.proofs.draw.add_block.Given as goal

abbrev pub invariant-loop-earlier : goal.invariant-loop-earlier
invariant-loop-earlier l =
    (old : List (ℕ × ℕ)) → AreDrawnTo old l.near l.note l.from l.initial.edges.items
    → AreDrawnTo old l.near l.note l.earlier l.edges.items
