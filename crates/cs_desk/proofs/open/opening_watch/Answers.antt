use Rattle.std.proofs.Common.{arith}
use Rattle.cs_board.proofs.Opening.{watch_first, watch_later}
use Rattle.cs_desk.proofs.open.opening_watch.Goals as goal

pub returns-then-into-edge : goal.returns-then-into-edge
returns-then-into-edge c =
    watch_first c.args.graph.now.edges c.args.edge c.ends-note.result.0 c.ends-note.result.1 c.ends-note.ensures.edge
    (λ f p l h. let r = (c.in_edges-into.ensures f).1 (p, h) in omega (arith, r.0, l, c.if-into-edge.true))

pub returns-else-into-edge : goal.returns-else-into-edge
returns-else-into-edge c =
    let into = (c.in_edges-into.ensures c.args.edge).1 (c.ends-note.result.0, c.ends-note.ensures.edge) in
    let first = (c.in_edges-into.ensures c.in_edges-into.result.start).0 (omega arith, omega (arith, into.0, into.1)) in
    watch_later c.args.graph.now.edges c.in_edges-into.result.start c.args.edge first.0 c.ends-note.result.0
    c.ends-note.result.1 (omega (arith, into.0, c.if-into-edge.false)) first.1 c.ends-note.ensures.edge
