use Rattle.std.proofs.Common.{length, refl, ap, ◌∙◌}
use Rattle.cs_signal.specs.Operands.{inputs_at}
use Rattle.cs_signal.proofs.Walks.{HasRun_none, HasRun_step, HasRun_end}
use Rattle.cs_signal.proofs.stepwise.frame_by_frame.Goals as goal

pub loop-j-init : goal.loop-j-init
loop-j-init g c = HasRun_none g.S.Stepper.step (inputs_at c.args.inputs.now) c.args.unit.now (length c.args.out.now)
    c.args.out.now refl

pub loop-j-preserved : goal.loop-j-preserved
loop-j-preserved g c =
    HasRun_step g.S.Stepper.step (inputs_at c.args.inputs.now) c.args.unit.now (length c.args.out.now) c.loop-j.j
    c.loop-j.unit c.tick.new.self c.loop-j.out c.tick.result c.loop-j.invariant c.loop-j-test.true
    (c.tick.ensures ∙ ap (g.S.Stepper.step c.loop-j.unit) c.gathered-here.ensures.first)

pub returns : goal.returns
returns g c =
    HasRun_end g.S.Stepper.step (inputs_at c.args.inputs.now) c.args.unit.now (length c.args.out.now) c.loop-j.j
    c.loop-j.unit c.loop-j.out c.loop-j.invariant c.loop-j-test.false
