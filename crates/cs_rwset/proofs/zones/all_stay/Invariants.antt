use Rattle.std.proofs.Common.{◌-◌, take}
use Rattle.std.specs.List.{All}
use Rattle.cs_rwset.specs.{declared.code.Marks.Marks, inner.Zoning.Stay}
use Rattle.cs_rwset.proofs.zones.all_stay.Given as goal

abbrev pub invariant-loop-marks : goal.invariant-loop-marks
invariant-loop-marks l = All (λ (m : Marks). Stay m (l.place - 1) l.place) (take l.marks-index l.each)
