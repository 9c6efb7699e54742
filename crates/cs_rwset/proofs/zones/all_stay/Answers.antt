use Rattle.std.proofs.Common.{◌-◌, subst}
use Rattle.std.specs.List.{All}
use Rattle.std.proofs.lemmas.List.{take_all}
use Rattle.cs_rwset.specs.{declared.code.Marks.Marks, inner.Zoning.Stay}
use Rattle.cs_rwset.proofs.ZoneSteps.{all_more}
use Rattle.cs_rwset.proofs.zones.all_stay.Goals as goal

pub loop-marks-preserved : goal.loop-marks-preserved
loop-marks-preserved c =
    all_more (λ (m : Marks). Stay m (c.args.place - 1) c.args.place) c.args.each.now c.loop-marks.marks-index
    c.marks-item.result c.loop-marks.invariant c.marks-item.is c.loop-marks-test.true
    (c.stays.ensures c.if-not-stays.false)

pub returns : goal.returns
returns c so =
    subst (All (λ (m : Marks). Stay m (c.args.place - 1) c.args.place))
    (take_all c.loop-marks.marks-index c.args.each.now c.loop-marks-test.false) c.loop-marks.invariant
