use Rattle.std.proofs.Common.{◌∙◌, [], ap, arith}
use Rattle.cs_ir.specs.{Resources.ops_use, Resources.ops_write, Touched.named}
use Rattle.cs_rwset.specs.{Footprints.stock_of, inner.Marks.marks_of}
use Rattle.cs_rwset.proofs.Marking.{alike_marks, none_marked, rewritten}
use Rattle.cs_rwset.proofs.code.marks_of.Goals as goal

pub returns-clause-uses : goal.returns-clause-uses
returns-clause-uses c =
    let areas = c.args.layout.now in
    let stock = stock_of areas in
    let marks = c.in_ok-vec.field-0 in
    let before = c.in_ok-vec.ensures.items_if_clones_equal (λ y h. h) ∙ none_marked areas _ c.len-areas.ensures in
    rewritten areas [] (ops_use stock c.args.ops.now) marks.len marks.items c.mark_all.new.marks before
    (omega (arith, marks.ok)) (c.mark_all.ensures [] (c.deref_mut.ensures.value ∙ before)
    ∙ ap (λ l. marks_of areas (named stock l)) c.deref.ensures.value
    ∙ alike_marks areas (named stock c.touches-touches.result.now.used.items) (ops_use stock c.args.ops.now)
    (c.touches-touches.ensures.used stock))

pub returns-clause-writes : goal.returns-clause-writes
returns-clause-writes c =
    let areas = c.args.layout.now in
    let stock = stock_of areas in
    let marks = c.in_ok-vec-2.field-0 in
    let before = c.in_ok-vec-2.ensures.items_if_clones_equal (λ y h. h) ∙ none_marked areas _ c.len-areas.ensures in
    rewritten areas [] (ops_write stock c.args.ops.now) marks.len marks.items c.mark_all-2.new.marks before
    (omega (arith, marks.ok)) (c.mark_all-2.ensures [] (c.deref_mut-2.ensures.value ∙ before)
    ∙ ap (λ l. marks_of areas (named stock l)) c.deref-2.ensures.value
    ∙ alike_marks areas (named stock c.touches-touches.result.now.written.items) (ops_write stock c.args.ops.now)
    (c.touches-touches.ensures.written stock))
