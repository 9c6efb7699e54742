use Rattle.std.proofs.Common.{◌≡◌, length}
use Rattle.cs_gen.proofs.HarmonicSums.{IsRaisedTo}
use Rattle.cs_gen.specs.inner.Harmonics.{harmonic}
use Rattle.cs_gen.proofs.harmonics.add_harmonic.Given as goal

abbrev pub invariant-loop-sum : goal.invariant-loop-sum
invariant-loop-sum l =
    (l.len ≡ length l.heights)
    × IsRaisedTo (length l.heights) l.step (harmonic (length l.heights) l.step l.strength) l.initial.sums l.sums
    l.sum-index l.phase
