use Rattle.std.proofs.Common.{length}
use Rattle.cs_base.specs.Numbers.{one, product_of}
use Rattle.cs_signal.specs.{Operands.operand_at, inner.Level.HasFilled}
use Rattle.cs_signal.proofs.linen.level.Given as goal

abbrev pub invariant-loop-j : goal.invariant-loop-j
invariant-loop-j l = HasFilled (λ j. product_of (operand_at l.fn.x j) one) (length l.initial.out) l.j l.out
