use Rattle.std.proofs.Common.{◌≡◌, ℕ, ◌≤◌, length}
use Rattle.cs_base.specs.Numbers.{product_of}
use Rattle.cs_signal.specs.{Operands.argument, Operands.operand_at, inner.Level.HasFilled}
use Rattle.cs_signal.proofs.linen.shape.Given as goal

abbrev pub invariant-loop-j : goal.invariant-loop-j
invariant-loop-j l =
    HasFilled (λ j. product_of (operand_at l.fn.x j) (argument l.initial.out j)) (length l.initial.out) l.j l.out
    × ((i : ℕ) → l.j ≤ i → argument l.out i ≡ argument l.initial.out i)
