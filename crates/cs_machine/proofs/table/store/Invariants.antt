use Rattle.std.proofs.Common.{◌≡◌, Some}
use Rattle.cs_gen.specs.{Points.len_of, Places.place_of_index}
use Rattle.cs_signal.specs.Operands.{operand_at}
use Rattle.cs_cells.specs.Cells.{cell}
use Rattle.cs_meaning.specs.Pieces.{stored}
use Rattle.cs_voice_meaning.specs.Placing.{wave_in, with_wave}
use Rattle.cs_base.specs.declared.resource.Rate.TheVariants as rate
use Rattle.cs_machine.proofs.table.store.Given as goal

abbrev pub invariant-loop-j : goal.invariant-loop-j
invariant-loop-j g l = record {
  cells : cell (g.B.Bank.cells l.bank) ≡ with_wave (Some l.area)
      (stored (λ j. place_of_index (len_of l.area.length) (operand_at l.ndx j)) (operand_at l.sig) l.j
      (wave_in rate.Audio l.area (cell (g.B.Bank.cells l.initial.bank)))) (cell (g.B.Bank.cells l.initial.bank));
  rest : g.B.Bank.rest l.bank ≡ g.B.Bank.rest l.initial.bank;
}
