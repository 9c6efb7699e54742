use Rattle.std.proofs.Common.{◌≡◌, length}
use Rattle.cs_ir.specs.Waves.{both, silence}
use Rattle.cs_machine.specs.Rows.{Begins, row_wave}
use Rattle.cs_words.specs.declared.sign.BinOp.TheVariants as op
use Rattle.cs_machine.proofs.outputs.begin_row.Given as goal

-- the elements before this index are filled
abbrev pub invariant-loop-j : goal.invariant-loop-j
invariant-loop-j l = record {
  frames : Begins l.j (both op.Add silence (row_wave l.row)) l.channel;
  long : length l.channel ≡ length l.initial.channel;
}
