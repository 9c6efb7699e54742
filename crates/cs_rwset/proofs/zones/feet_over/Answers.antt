use Rattle.std.proofs.Common.{◌≡◌}
use Rattle.cs_cells.specs.declared.footprint.Footprint.{Footprint}
use Rattle.cs_rwset.specs.{declared.code.Marks.Marks, inner.Marks.marked, inner.Zoning.heads}
use Rattle.cs_rwset.proofs.ZoneSteps.{zip_more}
use Rattle.cs_rwset.proofs.zones.feet_over.Goals as goal

pub loop-marks-preserved : goal.loop-marks-preserved
loop-marks-preserved c =
    zip_more (λ (m : Marks) (foot : Footprint). (foot.uses ≡ marked (heads m.uses.items c.args.begins.now))
    × (foot.writes ≡ marked (heads m.writes.items c.args.begins.now))) c.args.each.now c.loop-marks.marks-index
    c.marks-item.result c.loop-marks.feet.items c.push.new.self.items c.in_ok-foot_over.field-0 c.loop-marks.invariant
    c.marks-item.is c.loop-marks-test.true (c.in_ok-foot_over.ensures.uses, c.in_ok-foot_over.ensures.writes)
    c.in_ok-push.ensures.items
