use Rattle.std.proofs.Common.{◌+◌, ap, sym, ◌∙◌, subst, arith, Ok, Err}
use Rattle.cs_base.specs.Lines.{next_len}
use Rattle.cs_csd.specs.Sections.{Reading}
use Rattle.cs_csd.proofs.Readings.{Read, all_read, as_sliced, fault_read, line_read}
use Rattle.std.proofs.lemmas.List.{take_rest}
use Rattle.cs_csd.proofs.split.split_csd.Goals as goal

pub returns-in-Err : goal.returns-in-Err
returns-in-Err c =
    let text = c.args.text.now in
    let at = c.loop-at.at in
    fault_read text c.loop-at.state c.loop-at.line at c.in-Err.fault c.loop-at-test.true
    (as_sliced text c.loop-at.state c.loop-at.line at c.line_len.result (Err c.in-Err.fault) c.line_len.ensures.value
    (sym c.step.ensures ∙ c.in-Err.is)) c.loop-at.invariant

pub loop-at-preserved : goal.loop-at-preserved
loop-at-preserved c =
    let text = c.args.text.now in
    let at = c.loop-at.at in
    subst (λ m. Read text c.in-Ok.next (c.loop-at.line + 1) (at + m))
    (sym (c.next_len-at.ensures ∙ ap next_len (take_rest text at)))
    (line_read text c.loop-at.state c.in-Ok.next c.loop-at.line at c.loop-at-test.true
    (as_sliced text c.loop-at.state c.loop-at.line at c.line_len.result (Ok c.in-Ok.next) c.line_len.ensures.value
    (sym c.step.ensures ∙ c.in-Ok.is)) c.loop-at.invariant)

pub returns : goal.returns
returns c = subst (Reading c.args.text.now) (sym c.finish.ensures)
    (all_read c.args.text.now c.loop-at.state c.loop-at.line c.loop-at.at c.max.result
    (omega (arith, c.loop-at-test.false)) (omega (arith, c.max.ensures)) c.loop-at.invariant)
