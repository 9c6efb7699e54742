use Rattle.std.proofs.Common.{◌∙◌, ap, arith, length, rules}
use Rattle.cs_machine.proofs.Frames.{one_more, all_done}
use Rattle.cs_ir.specs.{Values.combined, Waves.both}
use Rattle.cs_words.specs.declared.sign.BinOp.TheVariants as op
use Rattle.cs_machine.proofs.pairs.each_product.Goals as goal

pub loop-j-preserved : goal.loop-j-preserved
loop-j-preserved g c = record {
  frames = one_more (both op.Mul (g.X.Side.wave c.args.x.now) (g.Y.Side.wave c.args.y.now)) c.loop-j.out c.loop-j.j
      c.product.result (omega arith) c.loop-j.invariant.frames (c.product.ensures
      ∙ ap (λ z. combined op.Mul z c.at-in-loop-j.result) c.at.ensures
      ∙ ap (combined op.Mul (g.X.Side.wave c.args.x.now c.loop-j.j)) c.at-in-loop-j.ensures);
  long = search rules;
}

pub returns-clause-frames : goal.returns-clause-frames
returns-clause-frames g c =
    all_done (both op.Mul (g.X.Side.wave c.args.x.now) (g.Y.Side.wave c.args.y.now)) c.loop-j.out c.loop-j.j
    (length c.args.out.now) c.loop-j.invariant.long (omega arith) c.loop-j.invariant.frames
