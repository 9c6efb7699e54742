use Rattle.std.proofs.Common.{◌+◌, refl, arith}
use Rattle.cs_graph.proofs.EdgeLemmas.{range_read}
use Rattle.cs_graph.specs.{Graph.Edge, inner.Index.AreInto}
use Rattle.cs_graph.proofs.graph.Graph.next_in.Goals as goal

pub returns-then-next-end-clause-some : goal.returns-then-next-end-clause-some
returns-then-next-end-clause-some c =
    let here : Edge c.self.inside.edges.items c.args.edge c.requires.0 c.args.note =
    rw (← c.self.view_is) at c.requires.1 in
    let within = (c.self.invariant.ends.forward c.args.edge c.requires.0 c.args.note here).1 in
    let into : AreInto c.self.inside.edges.items c.args.note c.index.result.now.0 c.index.result.now.1 =
    range_read c.self.inside.edges.items c.self.inside.levels.items c.self.inside.into.items c.self.invariant.ends
    c.args.note _ within c.index.ensures in
    let low = ((into c.args.edge).1 (c.requires.0, here)).0 in
    (refl, rw (← c.self.view_is) ((into (c.args.edge + 1)).0 (omega (arith, low), omega (arith, c.if-next-end.true))))

pub returns-else-next-end-clause-none : goal.returns-else-next-end-clause-none
returns-else-next-end-clause-none c e p at_ =
    let here : Edge c.self.inside.edges.items c.args.edge c.requires.0 c.args.note =
    rw (← c.self.view_is) at c.requires.1 in
    let other : Edge c.self.inside.edges.items e p c.args.note = rw (← c.self.view_is) at at_ in
    let within = (c.self.invariant.ends.forward c.args.edge c.requires.0 c.args.note here).1 in
    let into : AreInto c.self.inside.edges.items c.args.note c.index.result.now.0 c.index.result.now.1 =
    range_read c.self.inside.edges.items c.self.inside.levels.items c.self.inside.into.items c.self.invariant.ends
    c.args.note _ within c.index.ensures in
    omega (arith, ((into e).1 (p, other)).1, c.if-next-end.false)
