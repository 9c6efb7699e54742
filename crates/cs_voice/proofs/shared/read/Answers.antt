use Rattle.std.proofs.Common.{◌≡◌, ◌∙◌, true, false, ap, length, sym}
use Rattle.std.proofs.lemmas.Bool.{false≢true}
use Rattle.cs_base.specs.Rates.{is_audio}
use Rattle.cs_cells.specs.Cells.{cell}
use Rattle.cs_ir.specs.Registers.{rate_at}
use Rattle.cs_machine.proofs.Frames.{all_written, vector_frames}
use Rattle.cs_voice.proofs.Sharing.{read_held, some_cell, sound_cells, sound_frames}
use Rattle.cs_voice_meaning.specs.Placing.{wave_in}
use Rattle.cs_voice.proofs.shared.read.Goals as goal
use Rattle.cs_voice.proofs.shared.read.Goals.{else-is_audio-via-then-is_audio+else-is_audio-2}
use Rattle.cs_voice.proofs.shared.read.Goals.{else-is_audio-via-else-is_audio}

pub read_row-requires-clause-row : goal.read_row-requires-clause-row
read_row-requires-clause-row g c =
    ap length c.deref_mut.ensures.value ∙ c.requires.row ∙ sym (c.requires.size
    ∙ sound_cells c.args.regs.now.ksmps c.args.rate (sym c.is_audio.ensures ∙ c.if-is_audio.true))

pub swap-requires-clause-row : goal.swap-requires-clause-row
swap-requires-clause-row g c = ap length (all_written c.args.row.now.len c.read_row.new.row c.args.row.now.items
    (c.read_row.ensures.row ∙ c.deref_mut.ensures.len))
    ∙ c.read_row.ensures.row ∙ ap length c.deref_mut.ensures.value ∙ c.requires.row

pub returns-then-is_audio-2-clause-values : goal.returns-then-is_audio-2-clause-values
returns-then-is_audio-2-clause-values g c =
    let cells = cell (g.B.Bank.cells c.args.bank.now) in
    let w = wave_in c.args.rate c.args.area cells in
    c.swap.ensures.values w (vector_frames w c.args.row.now.len c.read_row.new.row c.args.row.now.items
    (c.read_row.ensures.row ∙ c.deref_mut.ensures.len)
    (sound_frames c.args.rate c.args.area cells c.read_row.new.row (sym c.is_audio.ensures ∙ c.if-is_audio.true)
    c.read_row.ensures.frames))

pub returns-else-is_audio-clause-values : goal.returns-else-is_audio-clause-values
returns-else-is_audio-clause-values g c =
    let slow : is_audio c.args.rate ≡ true → is_audio (rate_at c.args.into) ≡ false = elim c.else-is_audio.branch [
      | else-is_audio-via-then-is_audio+else-is_audio-2 w ↦ λ h. sym w.is_audio-then-is_audio.ensures
          ∙ w.if-is_audio-2.false
      | else-is_audio-via-else-is_audio w ↦ λ h. absurd (false≢true (sym w.if-is_audio.false ∙ c.is_audio.ensures ∙ h))
    ] in
    read_held c.args.regs.now c.hold.new.self c.args.into c.args.rate c.args.area
    (cell (g.B.Bank.cells c.args.bank.now)) c.first_cell.result slow
    (some_cell c.args.regs.now.ksmps c.args.rate c.args.area.length c.requires.frames c.requires.size)
    c.first_cell.ensures.value c.hold.ensures.values
