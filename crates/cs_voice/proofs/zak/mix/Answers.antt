use Rattle.std.proofs.Common.{◌∙◌, length, ap, refl, sym}
use Rattle.cs_cells.specs.Cells.{cell}
use Rattle.cs_ir.specs.Machine.{in_world}
use Rattle.cs_meaning.specs.{Pieces.added, Pieces.index, Model.saved}
use Rattle.cs_machine.specs.{Registers.values, States.machine_of}
use Rattle.cs_voice_meaning.specs.{Placing.area_of, Placing.cell_count, VoiceWorld.read_cells, VoiceWorld.voice_model}
use Rattle.cs_machine.proofs.{Done.changes, Frames.all_written}
use Rattle.cs_voice.specs.inner.Zak.{reached}
use Rattle.cs_voice.proofs.Places.{at_reached, mixed_here, mixing, not_reached, reached_sound, reached_touched}
use Rattle.cs_voice.proofs.Places.{reached_value}
use Rattle.cs_words.specs.declared.catalogue.Space.TheVariants as space
use Rattle.cs_voice.proofs.zak.mix.Goals as goal

pub mix_row-requires-clause-row : goal.mix_row-requires-clause-row
mix_row-requires-clause-row g c =
    let here = sym c.place.ensures ∙ c.in-Some.is in
    let k = index c.first.result in
    c.row.ensures.long
    ∙ sym (c.requires.able.sized.cells c.in-Some.res c.area_in-area.result c.area_in-area.ensures.value
    (reached_value c.args.at.now space.Audio c.args.reach k c.in-Some.res here)
    ∙ ap (cell_count c.args.state.now.regs.ksmps) (reached_sound c.args.at.now c.args.reach k c.in-Some.res here))

pub mix_row-requires-clause-room : goal.mix_row-requires-clause-room
mix_row-requires-clause-room g c =
    let here = sym c.place.ensures ∙ c.in-Some.is in
    let k = index c.first.result in
    ap length c.deref_mut.ensures.value ∙ c.requires.able.room.row
    ∙ sym (c.requires.able.sized.cells c.in-Some.res c.area_in-area.result c.area_in-area.ensures.value
    (reached_value c.args.at.now space.Audio c.args.reach k c.in-Some.res here)
    ∙ ap (cell_count c.args.state.now.regs.ksmps) (reached_sound c.args.at.now c.args.reach k c.in-Some.res here))

pub mix_row-requires-clause-read : goal.mix_row-requires-clause-read
mix_row-requires-clause-read g c =
    let access = g.B.Bank.access (g.B.Bank.rest c.args.bank.now) in
    reached_touched access.can_get access.count c.args.at.now space.Audio c.args.reach (index c.first.result)
    c.in-Some.res c.area_in-area.result c.requires.able.read (sym c.place.ensures ∙ c.in-Some.is)
    c.area_in-area.ensures.value

pub mix_row-requires-clause-write : goal.mix_row-requires-clause-write
mix_row-requires-clause-write g c =
    let access = g.B.Bank.access (g.B.Bank.rest c.args.bank.now) in
    reached_touched access.can_set access.count c.args.at.now space.Audio c.args.reach (index c.first.result)
    c.in-Some.res c.area_in-area.result c.requires.able.write (sym c.place.ensures ∙ c.in-Some.is)
    c.area_in-area.ensures.value

pub returns-in-Some-clause-does : goal.returns-in-Some-clause-does
returns-in-Some-clause-does g c = λ into opcode shaped areas piece stock kinds counts at placed state.
    let before = cell (g.B.Bank.cells c.args.bank.now) in
    let after = cell (g.B.Bank.cells c.mix_row.new.bank) in
    let v = values c.args.state.now.regs c.args.number in
    let w = values c.args.state.now.regs c.args.x in
    let res = c.in-Some.res in
    let ksmps = c.args.state.now.regs.ksmps in
    let written = all_written c.args.state.now.row.len c.mix_row.new.room c.args.state.now.row.items
    (c.mix_row.ensures.room ∙ c.deref_mut.ensures.len) in
    let here =
    ap (λ z. reached c.args.at.now space.Audio c.args.reach (index z)) (sym c.first.ensures) ∙ sym c.place.ensures
    ∙ c.in-Some.is in
    let sound = reached_sound c.args.at.now c.args.reach (index (v 0)) res here in
    changes (record { regs = refl; rest = record { players = refl; outs = refl; delays = refl; ended = refl } }) state
    (ap length written ∙ c.mix_row.ensures.room ∙ ap length c.deref_mut.ensures.value ∙ c.requires.able.room.row)
    (λ next asks cause. let m = machine_of c.args.state.now before next asks cause in
    mixing areas piece opcode c.args.reach into m w v shaped ∙ ap (λ x. in_world x m)
    (at_reached c.args.at.now piece space.Audio c.args.reach (index (v 0)) res m.world
    (λ q. saved (voice_model areas piece) q (added (read_cells areas q before) w) m.world) at.spaces here)
    ∙ ap (λ cells. machine_of c.args.state.now cells next asks cause)
    (mixed_here areas res c.area_in-area.result w c.row.result.now ksmps piece.head.ksmps before after
    (ap (λ l. area_of l res) (sym at.layout) ∙ c.area_in-area.ensures.value) sound
    (c.requires.able.sized.cells res c.area_in-area.result c.area_in-area.ensures.value
    (reached_value c.args.at.now space.Audio c.args.reach (index (v 0)) res here) ∙ ap (cell_count ksmps) sound)
    c.row.ensures.long state.frames c.row.ensures.value c.mix_row.ensures.cells))

pub returns-in_default-clause-does : goal.returns-in_default-clause-does
returns-in_default-clause-does g c = λ into opcode shaped areas piece stock kinds counts at placed state.
    let before = cell (g.B.Bank.cells c.args.bank.now) in
    let v = values c.args.state.now.regs c.args.number in
    let w = values c.args.state.now.regs c.args.x in
    changes (record { regs = refl; rest = record { players = refl; outs = refl; delays = refl; ended = refl } }) state
    (state.row ∙ sym state.frames)
    (λ next asks cause. let m = machine_of c.args.state.now before next asks cause in
    mixing areas piece opcode c.args.reach into m w v shaped ∙ ap (λ x. in_world x m)
    (not_reached c.args.at.now piece space.Audio c.args.reach (index (v 0)) m.world
    (λ q. saved (voice_model areas piece) q (added (read_cells areas q before) w) m.world) at.spaces
    (ap (λ z. reached c.args.at.now space.Audio c.args.reach (index z)) (sym c.first.ensures) ∙ sym c.place.ensures
    ∙ c.in_default.is)))
