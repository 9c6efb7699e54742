use Rattle.std.proofs.Common.{◌≡◌, ◌≤◌}
use Rattle.cs_cells.specs.Cells.{cell}
use Rattle.cs_machine.specs.inner.Numbers.{cleared_in, clears}
use Rattle.cs_machine.proofs.zak.clear_places.Given as goal

-- the places before this one are cleared
abbrev pub invariant-loop-n : goal.invariant-loop-n
invariant-loop-n g l = record {
  cells : cell (g.B.Bank.cells l.bank)
      ≡ cleared_in l.at.layout.now (clears l.space l.reach l.from l.n) (cell (g.B.Bank.cells l.initial.bank));
  from : l.from ≤ l.n;
  within : l.n ≤ l.end;
  rest : g.B.Bank.rest l.bank ≡ g.B.Bank.rest l.initial.bank;
}
