use Rattle.std.proofs.Common.{[], ◌∷◌, refl, subst}
use Rattle.cs_machine.specs.{Outputs.IsGiven, Registers.values}
use Rattle.cs_machine.proofs.Given.{gives_to}
use Rattle.cs_ir.specs.declared.op.Act.TheVariants as act
use Rattle.cs_machine.proofs.state.State.send.Goals as goal

pub returns : goal.returns
returns c = λ into areas piece kinds counts cells state. gives_to areas piece kinds counts (act.Out c.args.channel) into
    (c.args.x ∷ []) c.args.channel (values c.args.self.now.regs c.args.x) c.args.self.now _ cells
    (record { regs = refl; players = refl; delays = refl; ended = refl; row = refl }) state
    (subst (λ w. IsGiven c.args.self.now.outs c.args.channel w c.give.new.self) c.row.ensures.value c.give.ensures)
    (λ m. refl)
