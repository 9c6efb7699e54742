use Rattle.std.proofs.Common.{◌≡◌, length}
use Rattle.cs_ir.specs.Values.{applied}
use Rattle.cs_signal.specs.Operands.{operand_at}
use Rattle.cs_machine.specs.Rows.{Begins}
use Rattle.cs_machine.proofs.rows.apply_row.Given as goal

-- the elements before this index are filled
abbrev pub invariant-loop-j : goal.invariant-loop-j
invariant-loop-j l = record {
  frames : Begins l.j (λ j. applied l.function (operand_at l.x j)) l.out;
  long : length l.out ≡ length l.initial.out;
}
