use Rattle.std.proofs.Common.{◌≡◌, ◌++◌, List, length, take}
use Rattle.cs_base.specs.declared.resource.Res.{Res}
use Rattle.cs_ir.specs.Touched.{named}
use Rattle.cs_rwset.specs.{Footprints.stock_of, inner.Marks.marks_of}
use Rattle.cs_rwset.proofs.marks.mark_all.Given as goal

abbrev pub invariant-loop-touch : goal.invariant-loop-touch
invariant-loop-touch l =
    (length l.marks ≡ length l.layout) × ((rs : List Res) → l.initial.marks ≡ marks_of l.layout rs
    → l.marks ≡ marks_of l.layout (rs ++ named (stock_of l.layout) (take l.touch-index l.touches)))
