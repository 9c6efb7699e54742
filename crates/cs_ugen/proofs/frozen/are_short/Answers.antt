use Rattle.std.proofs.Common.{arith}
use Rattle.cs_signal.proofs.Walks.{read}
use Rattle.cs_ugen.proofs.Shorts.{short_all, short_more}
use Rattle.cs_ugen.proofs.frozen.are_short.Goals as goal

pub loop-place-init : goal.loop-place-init
loop-place-init c = λ i h. absurd (omega arith)

pub loop-place-preserved : goal.loop-place-preserved
loop-place-preserved c =
    let points = c.args.points.now in
    λ i h. short_more points c.loop-place.place i c.index-points-place.result c.loop-place.invariant
    (read points c.loop-place.place c.index-points-place.result c.index-points-place.is c.loop-place-test.true)
    (c.is_short.ensures c.if-not-is_short.false) h

pub returns : goal.returns
returns c = λ e. short_all c.args.points.now c.loop-place.place c.loop-place.invariant c.loop-place-test.false
