use Rattle.std.proofs.Common.{◌≡◌, ◌<◌, length}
use Rattle.cs_ir.specs.Waves.{both}
use Rattle.cs_machine.specs.Rows.{Begins}
use Rattle.cs_words.specs.declared.sign.BinOp.TheVariants as op
use Rattle.cs_machine.proofs.pairs.each_low.Given as goal

-- the elements before this index have their products, if the magnitudes combined so far are below 2^32
abbrev pub invariant-loop-j : goal.invariant-loop-j
invariant-loop-j g l = record {
  frames : l.sizes < 4294967296 → Begins l.j (both op.Mul (g.X.Side.wave l.x) (g.Y.Side.wave l.y)) l.out;
  long : length l.out ≡ length l.initial.out;
}
