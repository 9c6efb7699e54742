use Rattle.std.proofs.Common.{length}
use Rattle.cs_signal.specs.{Operands.inputs_at, Walk.HasRun}
use Rattle.cs_signal.proofs.stepwise.frame_by_frame.Given as goal

abbrev pub invariant-loop-j : goal.invariant-loop-j
invariant-loop-j g l =
    HasRun g.S.Stepper.step (inputs_at l.inputs) l.initial.unit (length l.initial.out) l.j l.unit l.out
