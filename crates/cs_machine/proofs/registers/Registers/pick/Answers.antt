use Rattle.std.proofs.Common.{◌∙◌, ap, subst, sym}
use Rattle.cs_ir.specs.Values.{holds}
use Rattle.cs_machine.specs.Registers.{IsWritten, values}
use Rattle.cs_machine.proofs.Putting.{chosen_first, chosen_second, held_still}
use Rattle.cs_machine.proofs.registers.Registers.pick.Goals as goal

pub returns-then-holds-clause-values : goal.returns-then-holds-clause-values
returns-then-holds-clause-values c = subst (λ w. IsWritten c.args.self.now c.args.into w c.copy.new.self)
    (chosen_first (values c.args.self.now c.args.condition) (values c.args.self.now c.args.x)
    (values c.args.self.now c.args.y) (held_still c.args.self.now c.args.condition c.requires.held)
    (sym (ap holds c.first.ensures) ∙ sym c.holds.ensures ∙ c.if-holds.true)) c.copy.ensures.values

pub returns-else-holds-clause-values : goal.returns-else-holds-clause-values
returns-else-holds-clause-values c = subst (λ w. IsWritten c.args.self.now c.args.into w c.copy-else-holds.new.self)
    (chosen_second (values c.args.self.now c.args.condition) (values c.args.self.now c.args.x)
    (values c.args.self.now c.args.y) (held_still c.args.self.now c.args.condition c.requires.held)
    (sym (ap holds c.first.ensures) ∙ sym c.holds.ensures ∙ c.if-holds.false)) c.copy-else-holds.ensures.values
