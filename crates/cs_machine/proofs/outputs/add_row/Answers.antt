use Rattle.std.proofs.Common.{◌∙◌, ap, arith, length, rules}
use Rattle.cs_base.specs.Numbers.{sum_of}
use Rattle.cs_machine.proofs.Frames.{item_is, one_more, all_done, others_kept}
use Rattle.cs_ir.specs.Waves.{both}
use Rattle.cs_machine.specs.Rows.{row_wave}
use Rattle.cs_signal.specs.Operands.{argument}
use Rattle.cs_words.specs.declared.sign.BinOp.TheVariants as op
use Rattle.cs_machine.proofs.outputs.add_row.Goals as goal

pub loop-j-preserved : goal.loop-j-preserved
loop-j-preserved c = record {
  frames = one_more (both op.Add (row_wave c.args.channel.now) (row_wave c.args.row.now)) c.loop-j.channel c.loop-j.j
      c.add.result (omega arith) c.loop-j.invariant.frames (c.add.ensures ∙ ap (λ z. sum_of z c.index-row-j.result)
      (item_is c.loop-j.channel c.loop-j.j c.index-channel-j.result (omega arith) c.index-channel-j.is
      ∙ c.loop-j.invariant.others c.loop-j.j (omega arith)) ∙ ap (sum_of (argument c.args.channel.now c.loop-j.j))
      (item_is c.args.row.now c.loop-j.j c.index-row-j.result (omega arith) c.index-row-j.is));
  others = others_kept c.loop-j.j c.args.channel.now c.loop-j.channel c.add.result c.loop-j.invariant.others;
  long = search rules;
}

pub returns-clause-frames : goal.returns-clause-frames
returns-clause-frames c =
    all_done (both op.Add (row_wave c.args.channel.now) (row_wave c.args.row.now)) c.loop-j.channel c.loop-j.j
    (length c.args.channel.now) c.loop-j.invariant.long (omega arith) c.loop-j.invariant.frames
