use Rattle.std.proofs.Common.{◌≡◌, ◌≤◌, ◌+◌, ◌++◌, length, take, drop}
use Rattle.cs_cells.specs.Serial.{serial_jobs, before}
use Rattle.cs_row.proofs.order.run_in_order.Given as goal

abbrev pub invariant-loop-at : goal.invariant-loop-at
invariant-loop-at g l = record {
  low : l.at ≤ length l.initial.jobs;
  jobs : l.jobs ≡ take l.at (serial_jobs g.J.Job.means l.initial.jobs (g.B.Bank.cells l.initial.bank))
      ++ drop l.at l.initial.jobs;
  cells : g.B.Bank.cells l.bank ≡ before g.J.Job.means l.initial.jobs (g.B.Bank.cells l.initial.bank) l.at;
  rest : g.B.Bank.rest l.bank ≡ g.B.Bank.rest l.initial.bank;
  place : l.note ≡ l.first + l.at;
}
