use Rattle.cs_signal.specs.inner.Pieces.{HasPassed}
use Rattle.cs_signal.proofs.linseg.place_of.Given as goal

abbrev pub invariant-loop-k : goal.invariant-loop-k
invariant-loop-k l = HasPassed l.lengths l.fn.number l.k l.begin
