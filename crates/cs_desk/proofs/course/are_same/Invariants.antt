use Rattle.std.proofs.Common.{◌≡◌, ◌≤◌, length, take}
use Rattle.cs_desk.proofs.course.are_same.Given as goal

-- the first footprints are equal
abbrev pub invariant-loop-i : goal.invariant-loop-i
invariant-loop-i l = (l.i ≤ length l.feet) × (take l.i l.feet ≡ take l.i l.kept)
