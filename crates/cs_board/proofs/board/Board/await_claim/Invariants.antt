use Rattle.cs_board.specs.{Board.plan, Board.name, Board.view, Board.IsSeatOf, inner.Sittings.HasTried}
use Rattle.cs_board.proofs.board.Board.await_claim.Given as goal

abbrev pub invariant-loop-look : goal.invariant-loop-look
invariant-loop-look g l = record {
  of : IsSeatOf g.J.Job.means (plan l.self) (name l.self) l.seat;
  tried : HasTried (plan l.self) (view l.fn.seat) (view l.seat);
}
