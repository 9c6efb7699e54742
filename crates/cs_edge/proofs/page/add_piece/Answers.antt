use Rattle.std.proofs.Common.{arith}
use Rattle.cs_edge.proofs.Lists.{piece_more}
use Rattle.cs_edge.proofs.page.add_piece.Goals as goal

pub loop-i-preserved : goal.loop-i-preserved
loop-i-preserved c =
    piece_more c.loop-i.out c.args.out.now c.args.piece.now c.in_ok-from.from c.loop-i.i
    (omega (arith, c.loop-i.auto.out, c.loop-i-test.true, c.if-out-from.false, c.if-out-from-2.false))
    c.loop-i-test.true c.loop-i.invariant
