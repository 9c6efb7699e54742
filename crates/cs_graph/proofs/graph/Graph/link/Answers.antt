use Rattle.cs_graph.proofs.graph.Graph.link.Goals as goal

pub count_chains-requires-clause-ranges : goal.count_chains-requires-clause-ranges
count_chains-requires-clause-ranges c = rw (c.deref.ensures.value, c.deref-2.ensures.value) c.requires.ends.ranges
