use Rattle.std.proofs.Common.{◌∙◌, arith}
use Rattle.cs_gen.proofs.Normals.{greatest-more, larger}
use Rattle.cs_gen.proofs.normal.greatest.Goals as goal

pub loop-point-preserved : goal.loop-point-preserved
loop-point-preserved c =
    let bound = c.size.ensures.bounded in
    let most = c.loop-point.invariant.1 in
    let more = c.max-most.ensures ∙ larger c.loop-point.most c.size.result in (
      greatest-more c.args.points.now c.loop-point.point-index c.point-item.result c.loop-point.most c.size.result
          c.max-most.result (omega arith)
          c.loop-point.invariant.0 c.point-item.is c.size.ensures.value more,
      omega arith,
    )
