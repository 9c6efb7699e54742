use Rattle.std.proofs.Common.{◌+◌, ◌<◌, length, arith, subst}
use Rattle.std.proofs.lemmas.Option.{slice_get_within}
use Rattle.cs_graph.specs.{Graph.Edge, inner.Index.Points}
use Rattle.cs_graph.proofs.{ChainLemmas.named_some, ChainLemmas.named_none, ReadAt.read_at}
use Rattle.cs_graph.proofs.graph.Graph.next_out.Goals as goal

points : (c : goal.After-named)
    → Points c.self.inside.edges.items c.args.note (c.args.edge + 1) c.index.result.now
points c =
    let edges = c.self.inside.edges.items in
    let next = c.self.inside.next_out.items in
    let here : Edge edges c.args.edge c.args.note c.requires.0 = rw (← c.self.view_is) at c.requires.1 in
    let low : c.args.edge < length next = omega
    (arith, c.self.invariant.chained.each, slice_get_within edges c.args.edge (c.args.note, c.requires.0) here) in
    subst (Points edges c.args.note (c.args.edge + 1)) (read_at next c.args.edge _ 0 low c.index.ensures)
    (c.self.invariant.chained.next c.args.edge c.args.note c.requires.0 (omega arith) here)

pub returns-clause-some : goal.returns-clause-some
returns-clause-some c =
    rw (← c.self.view_is) (named_some c.self.inside.edges.items c.args.note (c.args.edge + 1) _ (points c)
    c.named.result (rw (← c.self.view_is) at c.named.ensures.some))

pub returns-clause-none : goal.returns-clause-none
returns-clause-none c =
    rw (← c.self.view_is) (named_none c.self.inside.edges.items c.args.note (c.args.edge + 1) _ (points c)
    c.named.result (rw (← c.self.view_is) at c.named.ensures.none))
