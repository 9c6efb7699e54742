use Rattle.std.proofs.Common.{◌<◌, length}
use Rattle.cs_graph.proofs.EdgeLemmas.{range_read}
use Rattle.cs_graph.proofs.graph.Graph.in_edges.Goals as goal

pub returns : goal.returns
returns c =
    let within : c.args.note < length c.self.inside.levels.items = rw (← c.self.view_is) at c.requires in
    rw (← c.self.view_is)
    (range_read c.self.inside.edges.items c.self.inside.levels.items c.self.inside.into.items c.self.invariant.ends
    c.args.note _ within c.index.ensures)
