use Rattle.cs_edge.specs.Moves.{WroteMore}
use Rattle.cs_report.proofs.Saying.{so_far}
use Rattle.cs_report.proofs.talk.say.Given as goal

-- the pieces so far have been written
abbrev pub invariant-loop-piece : goal.invariant-loop-piece
invariant-loop-piece g l =
    WroteMore (g.T.Sink.tells l.initial.talk) (g.T.Sink.tells l.talk)
    (so_far (λ piece. piece.now) l.pieces l.piece-index)
