use Rattle.std.proofs.Common.{arith}
use Rattle.std.proofs.lemmas.Grind.{common_steps}
use Rattle.cs_graph.proofs.CoverLemmas.{no_more_apart}
use Rattle.cs_graph.proofs.graph.Graph.useful_workers.Goals as goal

pub returns-clause-most : goal.returns-clause-most
returns-clause-most c notes = grind (arith, common_steps, no_more_apart)
