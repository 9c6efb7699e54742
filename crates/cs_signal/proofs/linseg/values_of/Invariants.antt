use Rattle.std.proofs.Common.{◌≡◌, ◌*◌, ℕ, map}
use Rattle.std.specs.List.{range_with_len}
use Rattle.cs_signal.specs.Operands.{argument}
use Rattle.cs_signal.proofs.linseg.values_of.Given as goal

abbrev pub invariant-loop-k : goal.invariant-loop-k
invariant-loop-k l = l.values.items ≡ map (λ (k : ℕ). argument l.init (2 * k)) (range_with_len 0 l.k)
