use Rattle.std.proofs.Common.{◌≡◌, take}
use Rattle.cs_ir.specs.{Registers.at_kind, Routines.library_in, declared.register.Kind.Kind, inner.Reaching.steps_limit}
use Rattle.cs_ir.proofs.routine.limits_of.Given as goal

abbrev pub invariant-loop-step : goal.invariant-loop-step
invariant-loop-step l =
    (k : Kind) → at_kind l.limits k ≡ steps_limit (library_in l.routines) k (take l.step-index l.steps)
