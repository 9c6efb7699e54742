use Rattle.std.proofs.Common.{take}
use Rattle.std.specs.List.{AllZip}
use Rattle.cs_ir.specs.Instruments.{Numbered}
use Rattle.cs_rwset.specs.{declared.code.Marks.Marks, inner.Zoning.AreMarksOf}
use Rattle.cs_rwset.proofs.zones.marks_of_each.Given as goal

abbrev pub invariant-loop-instrument : goal.invariant-loop-instrument
invariant-loop-instrument l =
    AllZip (λ (i : Numbered) (m : Marks). AreMarksOf l.layout i.perf m) (take l.instrument-index l.instruments)
    l.each.items
