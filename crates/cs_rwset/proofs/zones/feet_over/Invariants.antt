use Rattle.std.proofs.Common.{◌≡◌, take}
use Rattle.std.specs.List.{AllZip}
use Rattle.cs_cells.specs.declared.footprint.Footprint.{Footprint}
use Rattle.cs_rwset.specs.{declared.code.Marks.Marks, inner.Marks.marked, inner.Zoning.heads}
use Rattle.cs_rwset.proofs.zones.feet_over.Given as goal

abbrev pub invariant-loop-marks : goal.invariant-loop-marks
invariant-loop-marks l =
    AllZip (λ (m : Marks) (foot : Footprint). (foot.uses ≡ marked (heads m.uses.items l.begins))
    × (foot.writes ≡ marked (heads m.writes.items l.begins))) (take l.marks-index l.each) l.feet.items
