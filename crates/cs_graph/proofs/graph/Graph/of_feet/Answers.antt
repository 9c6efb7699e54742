use Rattle.std.proofs.Common.{arith}
use Rattle.std.proofs.lemmas.Grind.{common_steps}
use Rattle.cs_graph.proofs.GrownLemmas.{grown_ends, grown_graph, grown_fit, grown_levelled}
use Rattle.cs_graph.proofs.graph.Graph.of_feet.Goals as goal

pub link-requires : goal.link-requires
link-requires c =
    record { ends = grown_ends c.args.feet.now c.in_ok-grow.field-0 c.in_ok-grow.ensures c.requires }

pub returns-clause-graph : goal.returns-clause-graph
returns-clause-graph c = grind (arith, common_steps, grown_graph)

pub returns-clause-fit : goal.returns-clause-fit
returns-clause-fit c = grind (arith, common_steps, grown_fit)

pub returns-clause-levelled : goal.returns-clause-levelled
returns-clause-levelled c = grind (arith, common_steps, grown_levelled)
