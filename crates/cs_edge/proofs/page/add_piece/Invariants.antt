use Rattle.std.proofs.Common.{◌≡◌, ◌++◌, ◌+◌, take}
use Rattle.cs_edge.proofs.page.add_piece.Given as goal

-- the first i bytes of the piece follow the bytes used before
abbrev pub invariant-loop-i : goal.invariant-loop-i
invariant-loop-i l = take (l.from + l.i) l.out ≡ take l.from l.initial.out ++ take l.i l.piece
