use Rattle.std.proofs.Common.{◌≡◌, length, Bool}
use Rattle.cs_base.specs.declared.resource.Res.{Res}
use Rattle.cs_rwset.specs.inner.Marks.{marked_by}
use Rattle.cs_ir.specs.Touched.{covers}
use Rattle.cs_rwset.proofs.Marking.{half}
use Rattle.cs_rwset.proofs.marks.mark_each.Given as goal

abbrev pub invariant-loop-place : goal.invariant-loop-place
invariant-loop-place l =
    (length l.marks ≡ length l.layout) × ((P : Res → Bool) → l.initial.marks ≡ marked_by P l.layout
    → l.marks ≡ half P (covers l.spaces l.touch) l.place l.layout)
