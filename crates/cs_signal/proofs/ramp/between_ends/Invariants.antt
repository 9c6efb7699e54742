use Rattle.std.proofs.Common.{length}
use Rattle.cs_signal.specs.inner.Ramp.{HasRisen}
use Rattle.cs_signal.proofs.ramp.between_ends.Given as goal

abbrev pub invariant-loop-j : goal.invariant-loop-j
invariant-loop-j l =
    HasRisen l.fn.from l.fn.to l.fn.n l.fn.d l.inverse (length l.initial.out) l.j l.at.parts l.out
