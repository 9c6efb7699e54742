use Rattle.std.proofs.Common.{◌≡◌, ◌+◌, ◌*◌, ℕ, map}
use Rattle.std.specs.List.{range_with_len}
use Rattle.cs_base.specs.Heads.{header_of_head}
use Rattle.cs_signal.specs.{Operands.argument, Pace.pace_of, Pace.steps_of}
use Rattle.cs_signal.proofs.linseg.lengths_of.Given as goal

abbrev pub invariant-loop-k : goal.invariant-loop-k
invariant-loop-k l = l.lengths.items
    ≡ map (λ (k : ℕ). steps_of l.rate (pace_of (header_of_head l.head)) (argument l.init (2 * k + 1)))
    (range_with_len 0 l.k)
