use Rattle.std.proofs.Common.{ap, length, ◌++◌, ◌∙◌}
use Rattle.cs_signal.specs.Operands.{inputs_at}
use Rattle.cs_ugen.specs.inner.Runs.{state_run}
use Rattle.cs_ugen.proofs.Units.{runs}
use Rattle.cs_ugen.proofs.unit.Unit.block_on.Goals as goal

pub returns-in-Some-clause-value : goal.returns-in-Some-clause-value
returns-in-Some-clause-value g c =
    let u = c.args.self.now in
    let n = length c.args.out.now in
    c.rendered_on.ensures.value
    ∙ ap (λ points. state_run u (λ j. inputs_at c.args.inputs.now j ++ points) n) c.in-Some.ensures
    ∙ runs u (λ j. inputs_at c.args.inputs.now j ++ g.C.Curve.points c.args.curve.now) n

pub returns-else-MAY_BE_SHORT-clause-value : goal.returns-else-MAY_BE_SHORT-clause-value
returns-else-MAY_BE_SHORT-clause-value g c =
    c.rendered_on-else-MAY_BE_SHORT.ensures.value
    ∙ runs c.args.self.now (λ j. inputs_at c.args.inputs.now j ++ g.C.Curve.points c.args.curve.now)
    (length c.args.out.now)
