use Rattle.std.proofs.Common.{◌≡◌, ◌+◌, ◌≤◌, ◌∷◌, [], length, vec_capacity}
use Rattle.cs_signal.specs.{Operands.operand_at, Delay.delay_step, Walk.HasRun, inner.Ring.line_in}
use Rattle.cs_signal.proofs.delay.fill.Given as goal

abbrev pub invariant-loop-j : goal.invariant-loop-j
invariant-loop-j l =
    HasRun delay_step (λ j. operand_at l.x j ∷ []) (line_in l.count l.initial.ring.items 0) (length l.initial.out) l.j
    (line_in l.count l.ring.items 0) l.out
    × (length l.ring.items ≡ length l.initial.ring.items + l.j) × (l.count ≤ vec_capacity l.ring)
