use Rattle.std.proofs.Common.{[], ◌∷◌, ◌∙◌, ap, refl, subst, sym}
use Rattle.cs_ir.specs.{Machine.in_world, Validity.has_register}
use Rattle.cs_meaning.specs.Pieces.{index}
use Rattle.cs_machine.specs.{Outputs.IsGiven, Registers.values, inner.Channels.channel_below, States.machine_of}
use Rattle.cs_machine.proofs.Given.{gives_to, numbered_channel, numbered_nowhere}
use Rattle.cs_voice_meaning.proofs.Channels.{all_channels}
use Rattle.cs_ir.specs.declared.op.Act.TheVariants as act
use Rattle.cs_machine.proofs.state.State.send_at.Goals as goal

pub returns-in-Some : goal.returns-in-Some
returns-in-Some c = λ into areas piece kinds counts cells state.
    gives_to areas piece kinds counts act.OutAt into (c.args.number ∷ c.args.x ∷ []) c.in-Some.below
    (values c.args.self.now.regs c.args.x) c.args.self.now _ cells
    (record { regs = refl; players = refl; delays = refl; ended = refl; row = refl }) state
    (subst (λ w. IsGiven c.args.self.now.outs c.in-Some.below w c.give.new.self) c.row.ensures.value c.give.ensures)
    (λ m. ap (λ x. in_world x m)
    (numbered_channel piece.head.nchnls (index (values c.args.self.now.regs c.args.number 0)) c.in-Some.below
    (values c.args.self.now.regs c.args.x) m.world
    (ap (λ n. channel_below n (index (values c.args.self.now.regs c.args.number 0)))
    (sym (c.len.ensures.value ∙ state.channels ∙ all_channels counts c.args.x piece.head.nchnls
    (ap (λ n. has_register n c.args.x) (sym state.registers) ∙ c.requires.x) c.requires.sound))
    ∙ ap (λ z. channel_below c.len.result (index z)) (sym c.first.ensures) ∙ sym c.channel_below.ensures
    ∙ c.in-Some.is)))

pub returns-in_default : goal.returns-in_default
returns-in_default c = λ into areas piece kinds counts cells state.
    let number = index (values c.args.self.now.regs c.args.number 0) in
    let m = machine_of c.args.self.now cells in
    record {
      machine = λ next asks cause. sym (ap (λ x. in_world x (m next asks cause))
          (numbered_nowhere piece.head.nchnls number (values c.args.self.now.regs c.args.x) (m next asks cause).world
          (λ below there. c.in_default.not-Some below (c.channel_below.ensures
          ∙ ap (λ z. channel_below c.len.result (index z)) c.first.ensures ∙ ap (λ n. channel_below n number)
          (c.len.ensures.value ∙ state.channels ∙ all_channels counts c.args.x piece.head.nchnls
          (ap (λ n. has_register n c.args.x) (sym state.registers) ∙ c.requires.x) c.requires.sound) ∙ there))));
      state = state;
    }
