use Rattle.std.proofs.Common.{length, ◌-◌, ◌+◌}
use Rattle.cs_graph.proofs.CommonLemmas.{StandsFrom}
use Rattle.cs_graph.proofs.one_chain.have_common.Given as goal

abbrev pub invariant-loop-here : goal.invariant-loop-here
invariant-loop-here l = StandsFrom l.here l.there l.one l.other

abbrev pub decreases-loop-here : goal.decreases-loop-here
decreases-loop-here l = (length l.one - l.here) + (length l.other - l.there)
