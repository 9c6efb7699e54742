use Rattle.std.proofs.Common.{◌≡◌, length}
use Rattle.cs_cells.specs.Cells.{cell, with_row}
use Rattle.cs_cells.proofs.bank.Bank.set_row.Given as goal

abbrev pub invariant-loop-j : goal.invariant-loop-j
invariant-loop-j g l = record {
  cells : cell (g.Self.Bank.cells l.self) ≡ with_row l.first l.j (cell l.row) (cell (g.Self.Bank.cells l.initial.self));
  long : length (g.Self.Bank.cells l.self) ≡ length (g.Self.Bank.cells l.initial.self);
  rest : g.Self.Bank.rest l.self ≡ g.Self.Bank.rest l.initial.self;
}
