use Rattle.std.proofs.Common.{length}
use Rattle.cs_signal.specs.inner.Ramp.{HasRamped}
use Rattle.cs_signal.proofs.ramp.anywhere.Given as goal

abbrev pub invariant-loop-j : goal.invariant-loop-j
invariant-loop-j l = HasRamped l.fn.from l.fn.to l.fn.n l.fn.d (length l.initial.out) l.j l.at.whole l.at.rest l.out
