use Rattle.std.proofs.Common.{◌∙◌, ap, sym, length, slice_set, true, arith}
use Rattle.std.proofs.lemmas.List.{length-set}
use Rattle.cs_ir.specs.Touched.{covers}
use Rattle.cs_rwset.proofs.Marking.{half_more, half_same, half_all}
use Rattle.cs_rwset.proofs.marks.mark_each.Goals.{then-covers, else-covers}
use Rattle.cs_rwset.proofs.marks.mark_each.Goals as goal

pub loop-place-preserved : goal.loop-place-preserved
loop-place-preserved c = elim c.if-covers.branch [
  | then-covers w ↦ (
    ap length w.marks-is ∙ length-set c.loop-place.marks c.loop-place.place true ∙ c.loop-place.invariant.0,
    λ P e. w.marks-is ∙ ap (λ m. slice_set m c.loop-place.place true) (c.loop-place.invariant.1 P e)
        ∙ half_more P (covers c.args.spaces c.args.touch) c.loop-place.place c.args.layout.now c.area.result
        c.area.ensures (sym c.covers.ensures ∙ w.if-covers.true),
  )
  | else-covers w ↦ (
    ap length w.marks-is ∙ c.loop-place.invariant.0,
    λ P e. w.marks-is ∙ c.loop-place.invariant.1 P e
        ∙ half_same P (covers c.args.spaces c.args.touch) c.loop-place.place c.args.layout.now c.area.result
        c.area.ensures (sym c.covers.ensures ∙ w.if-covers.false),
  )
]

pub returns : goal.returns
returns c P e =
    c.loop-place.invariant.1 P e ∙ half_all P (covers c.args.spaces c.args.touch) c.loop-place.place c.args.layout.now
    (omega (arith, c.loop-place-test.false, c.len-place-end.ensures))
