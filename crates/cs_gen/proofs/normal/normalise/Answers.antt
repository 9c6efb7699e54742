use Rattle.std.proofs.Common.{set, ap, ◌∙◌, arith, unsigned_abs}
use Rattle.std.proofs.lemmas.{List.Edits.map_over_more, List.get_or_default}
use Rattle.cs_gen.specs.Points.{normalised}
use Rattle.cs_gen.proofs.Normals.{at_most_greatest, still}
use Rattle.cs_gen.proofs.normal.normalise.Goals as goal

pub normalised-requires-clause-most : goal.normalised-requires-clause-most
normalised-requires-clause-most c =
    let here = still (normalised c.greatest-most.result) c.args.points.now c.loop-point.points c.loop-point.point-index
    c.point-item.result c.loop-point-test.true c.loop-point.invariant.2 in
    let low = at_most_greatest c.args.points.now c.loop-point.point-index c.point-item.result c.loop-point-test.true in
    let most = c.greatest-most.ensures.value in
    omega (arith, ap unsigned_abs here, low, most)

pub loop-point-preserved : goal.loop-point-preserved
loop-point-preserved c = (
  c.loop-point.invariant.0,
  c.loop-point.invariant.1,
  ap (λ z. set c.loop-point.points c.loop-point.point-index z) c.normalised.ensures
      ∙ map_over_more (normalised c.greatest-most.result) c.args.points.now c.loop-point.points c.loop-point.point-index
      _ c.loop-point-test.true c.loop-point.invariant.2
      (get_or_default c.loop-point.points c.loop-point.point-index _ _ (omega arith)),
)
