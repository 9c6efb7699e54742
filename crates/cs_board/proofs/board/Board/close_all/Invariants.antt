use Rattle.std.proofs.Common.{◌≡◌, length, None, MatchOption}
use Rattle.cs_board.specs.{Board.plan, inner.Sittings.IsSittingOf, inner.Sittings.Beside, inner.Sittings.ClosesAt}
use Rattle.cs_board.proofs.Finishing.{edges_left}
use Rattle.cs_board.proofs.board.Board.close_all.Given as goal

abbrev pub invariant-loop-next : goal.invariant-loop-next
invariant-loop-next g l = record {
  sitting : IsSittingOf g.J.Job.means l.self l.sitting;
  carries : l.sitting.me.1 ≡ l.initial.sitting.me.1;
  moving : l.sitting.me.0.moving ≡ None;
  closing : MatchOption l.next (l.sitting.me.0.closing ≡ None) (ClosesAt (plan l.self) l.sitting.me.0 l.note);
  beside : Beside l.initial.sitting.me.0 l.sitting.me.0;
}

abbrev pub decreases-loop-next : goal.decreases-loop-next
decreases-loop-next g l = edges_left (length (plan l.self).edges) l.next
