use Rattle.std.proofs.Common.{◌∙◌, ap, arith, length, pos, rules}
use Rattle.cs_machine.proofs.Frames.{item_is, one_more, all_done}
use Rattle.cs_base.specs.Numbers.{sum_of}
use Rattle.cs_ir.specs.Waves.{both, silence}
use Rattle.cs_machine.specs.Rows.{row_wave}
use Rattle.cs_words.specs.declared.sign.BinOp.TheVariants as op
use Rattle.cs_machine.proofs.outputs.begin_row.Goals as goal

pub loop-j-preserved : goal.loop-j-preserved
loop-j-preserved c = record {
  frames = one_more (both op.Add silence (row_wave c.args.row.now)) c.loop-j.channel c.loop-j.j c.first.result
      (omega arith) c.loop-j.invariant.frames (c.first.ensures ∙ ap (sum_of (pos 0))
      (item_is c.args.row.now c.loop-j.j c.index-row-j.result (omega arith) c.index-row-j.is));
  long = search rules;
}

pub returns-clause-frames : goal.returns-clause-frames
returns-clause-frames c =
    all_done (both op.Add silence (row_wave c.args.row.now)) c.loop-j.channel c.loop-j.j (length c.args.channel.now)
    c.loop-j.invariant.long (omega arith) c.loop-j.invariant.frames
