use Rattle.std.proofs.Common.{◌≡◌, take}
use Rattle.cs_ir.specs.inner.Naming.{invoked}
use Rattle.cs_ir.proofs.touches.invoked_by.Given as goal

abbrev pub invariant-loop-step : goal.invariant-loop-step
invariant-loop-step l = l.numbers.items ≡ invoked (take l.step-index l.steps)
