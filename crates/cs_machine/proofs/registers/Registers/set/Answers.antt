use Rattle.cs_machine.proofs.Putting.{held_place, held_set, held_written, wrote_first}
use Rattle.cs_machine.proofs.registers.Registers.set.Goals as goal

pub set_in-requires : goal.set_in-requires
set_in-requires c = held_place (λ ones. ones.items) c.self.inside.held _ c.self.inside.counts c.self.inside.ksmps
    c.args.self.now c.args.register c.held_number.result c.self.view_is c.self.invariant c.requires.there
    c.requires.held c.held_number.ensures.number _

pub invariant_of-self : goal.invariant_of-self
invariant_of-self c = held_set (λ ones. ones.items) c.self.inside.held _ c.self.inside.counts c.self.inside.ksmps
    c.args.self.now c.args.register c.held_number.result c.self.view_is c.self.invariant c.requires.there
    c.requires.held c.held_number.ensures.number _ _ c.args.value c.set_in.ensures

pub returns : goal.returns
returns c = λ w first. wrote_first c.args.self.now _ c.args.register w c.args.value c.requires.held first
    (held_written (λ ones. ones.items) c.self.inside.held _ c.self.inside.counts c.self.inside.ksmps
    c.args.self.now c.args.register c.held_number.result c.self.view_is c.self.invariant c.requires.there
    c.requires.held c.held_number.ensures.number _ _ c.args.value c.set_in.ensures)
