use Rattle.std.proofs.Common.{◌∙◌, Some, ap, length}
use Rattle.cs_cells.specs.Cells.{cell}
use Rattle.cs_machine.proofs.Frames.{all_written, row_held}
use Rattle.cs_machine.specs.{Registers.values, Rows.row_wave}
use Rattle.cs_voice_meaning.specs.Placing.{with_wave}
use Rattle.cs_voice.proofs.Sharing.{row_is}
use Rattle.cs_voice.proofs.shared.write_frames.Goals as goal

pub returns-then-is_audio-clause-cells : goal.returns-then-is_audio-clause-cells
returns-then-is_audio-clause-cells g c =
    c.write_row.ensures.cells ∙ ap (λ w. with_wave (Some c.args.area) w (cell (g.B.Bank.cells c.args.bank.now)))
    (row_is c.args.regs.now c.args.x c.row.result.now c.row.ensures.long c.row.ensures.value)

pub returns-else-is_audio : goal.returns-else-is_audio
returns-else-is_audio g c =
    let same = all_written c.args.row.now.len c.frames.new.row c.args.row.now.items
    (c.frames.ensures.long ∙ c.deref_mut.ensures.len) in
    let long = c.frames.ensures.long ∙ ap length c.deref_mut.ensures.value ∙ c.requires.row in
    record {
      cells = c.write_row-else-is_audio.ensures.cells
          ∙ ap (λ w. with_wave (Some c.args.area) w (cell (g.B.Bank.cells c.args.bank.now)))
          (ap row_wave (c.deref.ensures.value ∙ same)
          ∙ row_held c.args.regs.now.ksmps (values c.args.regs.now c.args.x) c.frames.new.row long
          c.frames.ensures.frames);
      row = ap length same ∙ long;
      rest = c.write_row-else-is_audio.ensures.rest;
    }
