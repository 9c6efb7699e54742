use Rattle.std.proofs.Common.{◌∷◌, [], length, ap, ◌∙◌}
use Rattle.cs_signal.specs.{Delay.delay_step, Operands.operand_at, Steps.run}
use Rattle.cs_signal.proofs.delay.Delay.block.Goals as goal

pub returns : goal.returns
returns c =
    c.pass-self-inside.ensures.value
    ∙ ap (λ l. run delay_step (λ j. operand_at c.args.x.now j ∷ []) l 0 (length c.args.out.now)) c.self.view_is
