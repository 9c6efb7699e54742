use Rattle.std.proofs.Common.{◌∙◌, ap, arith, sym, List}
use Rattle.std.proofs.lemmas.List.{take_all}
use Rattle.cs_ir.proofs.Reaching.{most_next, steps_end}
use Rattle.cs_ir.specs.{Routines.library_in, declared.op.Op.Op, inner.Reaching.step_limit, inner.Reaching.steps_limit}
use Rattle.cs_ir.proofs.routine.limits_of.Goals as goal

pub loop-step-preserved : goal.loop-step-preserved
loop-step-preserved c = λ k.
    let reaches = step_limit (library_in c.args.routines.now) k in
    let more = c.in_ok-add_step.ensures k in
    let so_far = c.loop-step.invariant k in
    let here = ap reaches c.step-item.is in
    let next = most_next reaches c.args.steps.now c.loop-step.step-index c.step-item.result
    (omega (arith, c.loop-step-test.true)) in
    omega (arith, more, so_far, here, next)

pub returns : goal.returns
returns c = λ k.
    let rs : List (List Op) = library_in c.args.routines.now in
    c.loop-step.invariant k
    ∙ ap (steps_limit rs k) (take_all c.loop-step.step-index c.args.steps.now (omega (arith, c.loop-step-test.false)))
    ∙ sym (steps_end rs k c.args.steps.now)
