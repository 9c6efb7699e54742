use Rattle.std.proofs.Common.{◌∙◌, ap, ◌++◌, ◌∷◌, []}
use Rattle.cs_rwset.proofs.Marking.{marked_more, marked_same}
use Rattle.cs_rwset.proofs.marks.marked_places.Goals.{then-marks-place+in_ok-push, else-marks-place}
use Rattle.cs_rwset.proofs.marks.marked_places.Goals as goal

pub loop-place-preserved : goal.loop-place-preserved
loop-place-preserved c = elim c.if-marks-place.branch [
  | then-marks-place+in_ok-push w ↦
      w.places-is ∙ w.in_ok-push.ensures.ok ∙ ap (λ l. l ++ c.loop-place.place ∷ []) c.loop-place.invariant
      ∙ marked_more c.args.marks.now c.loop-place.place w.if-marks-place.true
  | else-marks-place w ↦ w.places-is ∙ c.loop-place.invariant
      ∙ marked_same c.args.marks.now c.loop-place.place w.if-marks-place.false
]
