use Rattle.cs_graph.proofs.SmallCycle.{conflict_03, readers_free, farther, graph_is}
use Rattle.cs_graph.proofs.examples.graph_examples.Goals as goal

pub returns-clause-conflict : goal.returns-clause-conflict
returns-clause-conflict c = conflict_03

pub returns-clause-farther : goal.returns-clause-farther
returns-clause-farther c = farther

pub returns-clause-readers : goal.returns-clause-readers
returns-clause-readers c = readers_free

pub returns-clause-graph : goal.returns-clause-graph
returns-clause-graph c = graph_is
