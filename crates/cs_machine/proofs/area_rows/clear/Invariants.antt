use Rattle.std.proofs.Common.{◌≡◌, ◌≤◌, ◌-◌}
use Rattle.cs_cells.specs.Cells.{cell, with_row}
use Rattle.cs_ir.specs.Waves.{silence}
use Rattle.cs_machine.proofs.area_rows.clear.Given as goal

-- the first cells are cleared
abbrev pub invariant-loop-done : goal.invariant-loop-done
invariant-loop-done g l = record {
  cells : cell (g.B.Bank.cells l.bank) ≡ with_row l.area.first l.done silence (cell (g.B.Bank.cells l.initial.bank));
  within : l.done ≤ l.area.length;
  rest : g.B.Bank.rest l.bank ≡ g.B.Bank.rest l.initial.bank;
}

abbrev pub decreases-loop-done : goal.decreases-loop-done
decreases-loop-done g l = l.length - l.done
