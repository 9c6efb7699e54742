use Rattle.std.proofs.Common.{◌≡◌, ◌≤◌, length}
use Rattle.cs_graph.specs.inner.Covering.{ArePartedTo}
use Rattle.cs_graph.proofs.cover.count_chains.Given as goal

abbrev pub invariant-loop-note : goal.invariant-loop-note
invariant-loop-note l =
    (length l.continued.items ≡ length l.into) × (l.count ≤ l.note)
    × ArePartedTo l.edges l.note l.continued.items l.count
