use Rattle.std.proofs.Common.{◌≡◌, ◌++◌, ℤ, List, take}
use Rattle.cs_edge.specs.{Taps.IsMirrorOf, Mirror.room_of, Mirror.kept_of, Mirror.count_of}
use Rattle.cs_edge.proofs.fakes.mirror.MirrorTapTap.take.Given as goal

-- the mirror represents the earlier values followed by the values so far
abbrev pub invariant-loop-z : goal.invariant-loop-z
invariant-loop-z l =
    ((h : List ℤ) → IsMirrorOf (room_of l.fn.self) (kept_of l.fn.self) (count_of l.fn.self) h
    → IsMirrorOf (room_of l.self) (kept_of l.self) (count_of l.self) (h ++ take l.z-index l.frames))
    × (room_of l.self ≡ room_of l.fn.self)
