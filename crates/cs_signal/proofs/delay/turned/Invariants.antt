use Rattle.std.proofs.Common.{◌≡◌, ◌<◌, ◌-◌, ◌∷◌, [], List, ℤ, length}
use Rattle.cs_signal.specs.{Operands.operand_at, Delay.delay_step, Walk.HasRun, inner.Ring.in_order}
use Rattle.cs_signal.proofs.delay.turned.Given as goal

abbrev pub invariant-loop-frame : goal.invariant-loop-frame
invariant-loop-frame l =
    (l.place < length l.ring) × (length l.ring ≡ length l.initial.ring) × (length l.out ≡ length l.initial.out)
    × ((first : List ℤ) → HasRun delay_step (λ j. operand_at l.x j ∷ []) first (length l.initial.out) l.from
    (in_order l.initial.ring l.oldest) l.initial.out
    → HasRun delay_step (λ j. operand_at l.x j ∷ []) first (length l.initial.out) l.frame (in_order l.ring l.place)
    l.out)

abbrev pub decreases-loop-frame : goal.decreases-loop-frame
decreases-loop-frame l = length l.out - l.frame
