use Rattle.std.proofs.Common.{arith}
use Rattle.std.proofs.lemmas.List.FromFn.{map-range_with_len_more}
use Rattle.cs_gen.specs.Points.{segments}
use Rattle.cs_gen.proofs.Walks.{HasPassed-none, HasPassed-later}
use Rattle.cs_gen.proofs.segments.segment_points.Goals as goal

pub loop-j-init : goal.loop-j-init
loop-j-init c = (c.new-points.ensures.items, HasPassed-none c.args.args.now 0)

pub loop-j-preserved : goal.loop-j-preserved
loop-j-preserved c =
    let more = map-range_with_len_more (segments c.args.args.now) 0 c.loop-j.j c.loop-j.j (omega arith) in
    let kept = c.loop-j.invariant.0 in
    let pushed = c.in_ok-push.ensures.items in
    let point = c.point.ensures in (
      rw more cc,
      HasPassed-later c.args.args.now c.loop-j.j c.reached-walk.result.segment c.reached-walk.result.begin
          c.reached-walk.ensures,
    )
