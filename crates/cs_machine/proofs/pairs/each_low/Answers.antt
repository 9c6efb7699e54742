use Rattle.std.proofs.Common.{◌∙◌, ap, arith, length, rules}
use Rattle.std.proofs.lemmas.Nat.{le_or_l, le_or_r}
use Rattle.cs_machine.proofs.Frames.{one_more, all_done}
use Rattle.cs_ir.specs.{Values.combined, Waves.both}
use Rattle.cs_words.specs.declared.sign.BinOp.TheVariants as op
use Rattle.cs_machine.proofs.pairs.each_low.Goals as goal

pub loop-j-preserved : goal.loop-j-preserved
loop-j-preserved g c = record {
  frames = λ h.
      let l = le_or_l c.loop-j.sizes c.size-sizes.result in
      let r = le_or_r c.loop-j.sizes c.size-sizes.result in
      let short = c.size-sizes.ensures (omega (arith, h, r)) in
      one_more (both op.Mul (g.X.Side.wave c.args.x.now) (g.Y.Side.wave c.args.y.now)) c.loop-j.out c.loop-j.j
      c.low_product.result (omega arith) (c.loop-j.invariant.frames (omega (arith, h, l)))
      (c.low_product.ensures short.0 short.1 ∙ ap (λ z. combined op.Mul z c.at-right.result) c.at-left.ensures
      ∙ ap (combined op.Mul (g.X.Side.wave c.args.x.now c.loop-j.j)) c.at-right.ensures);
  long = search rules;
}

pub returns-clause-frames : goal.returns-clause-frames
returns-clause-frames g c =
    λ h. all_done (both op.Mul (g.X.Side.wave c.args.x.now) (g.Y.Side.wave c.args.y.now)) c.loop-j.out c.loop-j.j
    (length c.args.out.now) c.loop-j.invariant.long (omega arith) (c.loop-j.invariant.frames h)
