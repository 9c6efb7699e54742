use Rattle.std.proofs.Common.{◌≡◌, length, map, take}
use Rattle.std.specs.List.{range_with_len}
use Rattle.cs_cells.specs.Cells.{cell}
use Rattle.cs_cells.proofs.bank.Bank.get_row.Given as goal

abbrev pub invariant-loop-j : goal.invariant-loop-j
invariant-loop-j g l = record {
  filled : take l.j l.row ≡ map (cell (g.Self.Bank.cells l.initial.self)) (range_with_len l.first l.j);
  long : length l.row ≡ length l.initial.row;
  cells : g.Self.Bank.cells l.self ≡ g.Self.Bank.cells l.initial.self;
  rest : g.Self.Bank.rest l.self ≡ g.Self.Bank.rest l.initial.self;
}
