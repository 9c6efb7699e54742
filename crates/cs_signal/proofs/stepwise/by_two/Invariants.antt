use Rattle.std.proofs.Common.{◌∷◌, [], length}
use Rattle.cs_signal.specs.{Operands.operand_at, Walk.HasRun}
use Rattle.cs_signal.proofs.stepwise.by_two.Given as goal

abbrev pub invariant-loop-j : goal.invariant-loop-j
invariant-loop-j g l =
    HasRun g.S.Stepper.step (λ j. operand_at l.fn.x j ∷ operand_at l.fn.y j ∷ [])
    l.fn.start (length l.initial.out) l.j l.unit l.out
