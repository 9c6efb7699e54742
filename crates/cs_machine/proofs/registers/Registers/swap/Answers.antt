use Rattle.std.proofs.Common.{map}
use Rattle.std.proofs.lemmas.List.{length-map}
use Rattle.cs_machine.proofs.Putting.{sound_long, sound_place, sound_set, sound_written, wrote_frames}
use Rattle.cs_machine.proofs.registers.Registers.swap.Goals as goal

pub swap_in-requires : goal.swap_in-requires
swap_in-requires c =
    sound_place (λ rows. map (λ row. row.items) rows.items) _ c.self.inside.sounds c.self.inside.counts
    c.self.inside.ksmps
    c.args.self.now c.args.register c.sound_number.result c.self.view_is c.self.invariant c.requires.there
    c.requires.sound c.sound_number.ensures.number
    (λ rows. rows.items) (λ rows. length-map rows.items (λ row. row.items)) _

pub invariant_of-self : goal.invariant_of-self
invariant_of-self c =
    sound_set (λ rows. map (λ row. row.items) rows.items) _ c.self.inside.sounds c.self.inside.counts
    c.self.inside.ksmps
    c.args.self.now c.args.register c.sound_number.result c.self.view_is c.self.invariant c.requires.there
    c.requires.sound c.sound_number.ensures.number _ _ c.args.row.now.items c.requires.row c.swap_in.ensures.rows

pub returns-clause-values : goal.returns-clause-values
returns-clause-values c = λ w frames. wrote_frames c.args.self.now _ c.args.register w c.args.row.now.items
    c.requires.sound c.requires.row frames
    (sound_written (λ rows. map (λ row. row.items) rows.items) _ c.self.inside.sounds c.self.inside.counts
    c.self.inside.ksmps
    c.args.self.now c.args.register c.sound_number.result c.self.view_is c.self.invariant c.requires.there
    c.requires.sound c.sound_number.ensures.number _ _ c.args.row.now.items c.requires.row c.swap_in.ensures.rows)

pub returns-clause-row : goal.returns-clause-row
returns-clause-row c =
    sound_long (λ rows. map (λ row. row.items) rows.items) _ c.self.inside.sounds c.self.inside.counts
    c.self.inside.ksmps
    c.args.self.now c.args.register c.sound_number.result c.self.view_is c.self.invariant c.requires.there
    c.requires.sound c.sound_number.ensures.number _ c.swap_in.new.row.items c.swap_in.ensures.row
