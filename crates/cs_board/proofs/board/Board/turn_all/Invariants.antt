use Rattle.std.proofs.Common.{◌≡◌, ◌+◌}
use Rattle.cs_board.specs.{Board.plan, inner.Sittings.IsSittingOf, inner.Sittings.ran_out, Views.does}
use Rattle.cs_board.proofs.board.Board.turn_all.Given as goal

abbrev pub invariant-loop-area : goal.invariant-loop-area
invariant-loop-area g l = record {
  sitting : IsSittingOf g.J.Job.means l.self l.sitting;
  me : l.sitting.me ≡ (
    does l.initial.sitting.me.0 (ran_out g.J.Job.means (plan l.self) l.note (1 + l.area-index)),
    l.initial.sitting.me.1,
  );
}
