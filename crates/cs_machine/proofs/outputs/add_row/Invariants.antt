use Rattle.std.proofs.Common.{◌≡◌, length}
use Rattle.cs_ir.specs.Waves.{both}
use Rattle.cs_machine.specs.{Rows.Begins, Rows.row_wave, inner.Kept.Ends}
use Rattle.cs_words.specs.declared.sign.BinOp.TheVariants as op
use Rattle.cs_machine.proofs.outputs.add_row.Given as goal

-- the elements before this index have the sum, the others are as before
abbrev pub invariant-loop-j : goal.invariant-loop-j
invariant-loop-j l = record {
  frames : Begins l.j (both op.Add (row_wave l.initial.channel) (row_wave l.row)) l.channel;
  others : Ends l.j l.initial.channel l.channel;
  long : length l.channel ≡ length l.initial.channel;
}
