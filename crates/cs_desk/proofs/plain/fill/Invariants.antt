use Rattle.std.proofs.Common.{◌≡◌, ◌≤◌, ◌++◌, take, drop}
use Rattle.cs_desk.proofs.plain.fill.Given as goal

abbrev pub invariant-loop-addr : goal.invariant-loop-addr
invariant-loop-addr g l = record {
  low : l.addr ≤ l.count;
  cells : g.B.Bank.cells l.bank ≡ take l.addr l.numbers ++ drop l.addr (g.B.Bank.cells l.initial.bank);
  rest : g.B.Bank.rest l.bank ≡ g.B.Bank.rest l.initial.bank;
}
