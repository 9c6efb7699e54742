use Rattle.std.proofs.Common.{◌≡◌, take, drop}
use Rattle.cs_edge.proofs.fakes.lookup.copy_front.Given as goal

-- the first i bytes have been copied
abbrev pub invariant-loop-i : goal.invariant-loop-i
invariant-loop-i l = take l.i l.buf ≡ take l.i (drop l.at l.bytes)
