use Rattle.std.proofs.Common.{arith}
use Rattle.cs_board.proofs.Opening.{status_waits, status_free}
use Rattle.cs_desk.proofs.open.opening_status.Goals as goal

pub returns-then-into : goal.returns-then-into
returns-then-into c = let first =
    (c.in_edges-into.ensures c.in_edges-into.result.start).0 (omega arith, c.if-into.true) in
    status_waits c.args.graph.now.edges c.in_edges-into.result.start first.0 c.args.note first.1

pub returns-else-into : goal.returns-else-into
returns-else-into c = status_free c.args.graph.now.edges c.args.note
    (λ e p h. let r = (c.in_edges-into.ensures e).1 (p, h) in omega (arith, r.0, r.1, c.if-into.false))
