use Rattle.std.proofs.Common.{◌∙◌, Some, ap, arith, sym}
use Rattle.cs_base.specs.Numbers.{sum_of}
use Rattle.cs_base.specs.declared.resource.Rate.TheVariants as rate
use Rattle.cs_cells.specs.Cells.{cell}
use Rattle.cs_meaning.specs.Pieces.{added}
use Rattle.cs_signal.specs.Operands.{argument}
use Rattle.cs_voice_meaning.specs.Placing.{wave_in, with_wave}
use Rattle.cs_machine.specs.Rows.{row_wave}
use Rattle.cs_machine.proofs.Writing.{same_wave, set_again}
use Rattle.cs_machine.proofs.area_rows.mix_row.Goals as goal

pub add_row-requires : goal.add_row-requires
add_row-requires g c = c.requires.row ∙ sym c.requires.room ∙ sym c.read_row.ensures.row

pub write_row-requires-clause-row : goal.write_row-requires-clause-row
write_row-requires-clause-row g c = c.add_row.ensures.long ∙ c.read_row.ensures.row ∙ c.requires.room

pub write_row-requires-clause-write : goal.write_row-requires-clause-write
write_row-requires-clause-write g c =
    set_again g.B.Bank.access (g.B.Bank.rest c.args.bank.now) (g.B.Bank.rest c.read_row.new.bank) c.args.area
    c.read_row.ensures.rest c.requires.write

pub returns-clause-cells : goal.returns-clause-cells
returns-clause-cells g c =
    let cells = cell (g.B.Bank.cells c.args.bank.now) in
    let room = row_wave c.add_row.new.channel in
    let frames = c.read_row.ensures.row in
    let all = c.add_row.ensures.long in
    c.write_row.ensures.cells ∙ ap (λ l. with_wave (Some c.args.area) room (cell l)) c.read_row.ensures.same
    ∙ same_wave c.args.area room (added (wave_in rate.Audio c.args.area cells) (row_wave c.args.row.now)) cells
    (λ j low. c.add_row.ensures.frames j (omega (arith, low, frames, all, c.requires.room))
    ∙ ap (λ z. sum_of z (argument c.args.row.now j))
    (c.read_row.ensures.frames j (omega (arith, low, frames, c.requires.room))))
