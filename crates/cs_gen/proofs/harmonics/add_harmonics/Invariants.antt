use Rattle.std.proofs.Common.{◌≡◌, length}
use Rattle.cs_gen.specs.inner.Harmonics.{AreSums}
use Rattle.cs_gen.proofs.harmonics.add_harmonics.Given as goal

abbrev pub invariant-loop-k : goal.invariant-loop-k
invariant-loop-k l =
    (l.len ≡ length l.heights)
    × AreSums (length l.heights) l.strengths l.k (length l.initial.sums) l.sums
