use Rattle.std.proofs.Common.{◌≡◌, length, map, take}
use Rattle.cs_signal.specs.Operands.{operand_at}
use Rattle.cs_signal.proofs.stepwise.gathered.Given as goal

abbrev pub invariant-loop-k : goal.invariant-loop-k
invariant-loop-k l = (length l.here ≡ 7) × (take l.k l.here ≡ map (λ x. operand_at x l.frame) (take l.k l.inputs))
