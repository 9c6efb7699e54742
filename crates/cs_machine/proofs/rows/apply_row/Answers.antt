use Rattle.std.proofs.Common.{◌∙◌, ap, arith, length, rules}
use Rattle.cs_machine.proofs.Frames.{one_more, all_done}
use Rattle.cs_ir.specs.Values.{applied}
use Rattle.cs_signal.specs.Operands.{operand_at}
use Rattle.cs_machine.proofs.rows.apply_row.Goals as goal

pub loop-j-preserved : goal.loop-j-preserved
loop-j-preserved c = record {
  frames = one_more (λ j. applied c.args.function (operand_at c.args.x.now j)) c.loop-j.out c.loop-j.j c.apply.result
      (omega arith) c.loop-j.invariant.frames (c.apply.ensures ∙ ap (applied c.args.function) c.at.ensures);
  long = search rules;
}

pub returns-clause-frames : goal.returns-clause-frames
returns-clause-frames c =
    all_done (λ j. applied c.args.function (operand_at c.args.x.now j)) c.loop-j.out c.loop-j.j (length c.args.out.now)
    c.loop-j.invariant.long (omega arith) c.loop-j.invariant.frames
