use Rattle.std.proofs.Common.{◌≡◌, ◌≤◌, length}
use Rattle.cs_graph.specs.inner.Index.{IsChained}
use Rattle.cs_graph.proofs.chains.chained.Given as goal

abbrev pub invariant-loop-edge : goal.invariant-loop-edge
invariant-loop-edge l = (l.edge ≤ length l.edges) × (length l.first_out.items ≡ l.notes)
    × IsChained l.edges l.edge l.first_out.items l.next_out.items

abbrev pub decreases-loop-edge : goal.decreases-loop-edge
decreases-loop-edge l = l.edge
