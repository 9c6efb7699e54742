use Rattle.std.proofs.Common.{◌∙◌, [], ap, map, sym}
use Rattle.std.proofs.lemmas.List.{get_or-map, length-map}
use Rattle.cs_machine.proofs.Putting.{sound_long, sound_place}
use Rattle.cs_machine.proofs.registers.Registers.row.Goals as goal

pub returns-clause-long : goal.returns-clause-long
returns-clause-long c =
    let low = sound_place (λ rows. map (λ row. row.items) rows.items) _ c.self.inside.sounds c.self.inside.counts
    c.self.inside.ksmps c.args.self.now c.args.register c.sound_number.result c.self.view_is c.self.invariant
    c.requires.there c.requires.sound c.sound_number.ensures.number
    (λ rows. rows.items) (λ rows. length-map rows.items (λ row. row.items)) _ in
    sound_long (λ rows. map (λ row. row.items) rows.items) _ c.self.inside.sounds c.self.inside.counts
    c.self.inside.ksmps c.args.self.now c.args.register c.sound_number.result c.self.view_is c.self.invariant
    c.requires.there c.requires.sound c.sound_number.ensures.number _ c.deref.result.now
    (c.deref.ensures.value ∙ ap (λ row. row.items) c.index.ensures
    ∙ sym (get_or-map (λ row. row.items) _ c.args.register.offset c.index.result.now [] low))
