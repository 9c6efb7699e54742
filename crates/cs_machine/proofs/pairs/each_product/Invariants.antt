use Rattle.std.proofs.Common.{◌≡◌, length}
use Rattle.cs_ir.specs.Waves.{both}
use Rattle.cs_machine.specs.Rows.{Begins}
use Rattle.cs_words.specs.declared.sign.BinOp.TheVariants as op
use Rattle.cs_machine.proofs.pairs.each_product.Given as goal

-- the elements before this index are filled
abbrev pub invariant-loop-j : goal.invariant-loop-j
invariant-loop-j g l = record {
  frames : Begins l.j (both op.Mul (g.X.Side.wave l.x) (g.Y.Side.wave l.y)) l.out;
  long : length l.out ≡ length l.initial.out;
}
