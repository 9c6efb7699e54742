use Rattle.std.proofs.Common.{◌≤◌, ◌-◌, length, take}
use Rattle.cs_edge.specs.Moves.{WroteMore}
use Rattle.cs_edge.proofs.writing.write_all.Given as goal

-- the bytes before the index have been written
abbrev pub invariant-loop-at : goal.invariant-loop-at
invariant-loop-at g l =
    (l.at ≤ length l.piece) × WroteMore (g.K.Sink.tells l.initial.sink) (g.K.Sink.tells l.sink) (take l.at l.piece)

abbrev pub decreases-loop-at : goal.decreases-loop-at
decreases-loop-at g l = length l.piece - l.at
