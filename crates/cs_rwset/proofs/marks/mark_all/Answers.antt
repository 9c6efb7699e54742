use Rattle.std.proofs.Common.{◌∙◌, ◌++◌, ap, arith, sym, take}
use Rattle.std.proofs.lemmas.List.{append-nil, take_all}
use Rattle.cs_ir.specs.Touched.{named}
use Rattle.cs_rwset.specs.{Footprints.is_among, Footprints.stock_of, inner.Marks.marks_of}
use Rattle.cs_rwset.proofs.Marking.{touch_marks, touch_step}
use Rattle.cs_rwset.proofs.marks.mark_all.Goals as goal

pub loop-touch-init : goal.loop-touch-init
loop-touch-init c = (c.requires.long, λ rs e. e ∙ ap (marks_of c.args.layout.now) (sym (append-nil rs)))

pub loop-touch-preserved : goal.loop-touch-preserved
loop-touch-preserved c =
    let areas = c.args.layout.now in
    let touches = c.args.touches.now in
    let i = c.loop-touch.touch-index in (
      omega arith,
      λ rs e.
          let past = rs ++ named (stock_of areas) (take i touches) in
          c.mark.ensures (is_among past) (c.loop-touch.invariant.1 rs e)
          ∙ touch_marks areas past c.args.runs.now.spaces _ c.requires.runs.spaces
          ∙ touch_step areas rs touches i _ c.loop-touch-test.true,
    )

pub returns : goal.returns
returns c rs e =
    c.loop-touch.invariant.1 rs e ∙ ap (λ l. marks_of c.args.layout.now (rs ++ named (stock_of c.args.layout.now) l))
    (take_all c.loop-touch.touch-index c.args.touches.now c.loop-touch-test.false)
