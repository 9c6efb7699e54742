use Rattle.std.proofs.Common.{◌≡◌, ℕ, ◌+◌, ◌-◌, length, Some}
use Rattle.cs_board.specs.{Board.plan, inner.Sittings.IsSittingOf, inner.Sittings.Beside}
use Rattle.cs_graph.specs.Graph.{Edge}
use Rattle.cs_board.proofs.board.Board.move_on.Given as goal

abbrev pub invariant-loop-next : goal.invariant-loop-next
invariant-loop-next g l = record {
  sitting : IsSittingOf g.J.Job.means l.self l.sitting;
  carries : l.sitting.me.1 ≡ l.initial.sitting.me.1;
  edge : (p : ℕ) × Edge (plan l.self).edges l.last p l.note;
  moving : l.sitting.me.0.moving ≡ Some (record { note = l.note; from = l.last + 1 });
  closing : l.sitting.me.0.closing ≡ l.initial.sitting.me.0.closing;
  beside : Beside l.initial.sitting.me.0 l.sitting.me.0;
}

abbrev pub decreases-loop-next : goal.decreases-loop-next
decreases-loop-next g l = length (plan l.self).edges - l.last
