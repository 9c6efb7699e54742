use Rattle.std.proofs.Common.{subst}
use Rattle.cs_graph.proofs.EdgeLemmas.{together}
use Rattle.cs_graph.specs.Graph.{StandTogether}
use Rattle.cs_graph.proofs.graph.Graph.edges.Goals as goal

pub returns-clause-together : goal.returns-clause-together
returns-clause-together c t =
    subst (λ z. StandTogether z.edges t) c.self.view_is
    (together c.self.inside.edges.items c.self.invariant.ends.ordered t)
