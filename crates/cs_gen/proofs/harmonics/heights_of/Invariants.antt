use Rattle.cs_gen.proofs.HarmonicSums.{AreFirstHeights}
use Rattle.cs_gen.proofs.harmonics.heights_of.Given as goal

abbrev pub invariant-loop-place : goal.invariant-loop-place
invariant-loop-place l = AreFirstHeights l.len l.place l.heights.items
