use Rattle.std.proofs.Common.{◌≡◌, ◌++◌, ℤ, List, take}
use Rattle.cs_edge.specs.Taps.{peak_of}
use Rattle.cs_edge.proofs.peak.PeakTapTap.take.Given as goal

-- the peak is the peak of the earlier values followed by the values so far
abbrev pub invariant-loop-z : goal.invariant-loop-z
invariant-loop-z l =
    (h : List ℤ) → l.fn.self.peak ≡ peak_of h → l.self.peak ≡ peak_of (h ++ take l.z-index l.frames)
