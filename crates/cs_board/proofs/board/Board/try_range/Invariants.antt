use Rattle.std.proofs.Common.{◌≡◌, ◌+◌, ◌-◌, ◌≤◌}
use Rattle.cs_board.specs.{Board.IsIdle, inner.Sittings.IsSittingOf, inner.Sittings.Tries, inner.Sittings.AllTried}
use Rattle.cs_board.proofs.board.Board.try_range.Given as goal

abbrev pub invariant-loop-note : goal.invariant-loop-note
invariant-loop-note g l = record {
  sitting : IsSittingOf g.J.Job.means l.self l.sitting;
  carries : l.sitting.me.1 ≡ l.initial.sitting.me.1;
  idle : IsIdle l.sitting.me.0;
  tried : AllTried l.initial.sitting.me.0 l.sitting.me.0 l.from l.note;
  tries : Tries l.initial.sitting.me.0 l.sitting.me.0;
  steps : l.steps.count + l.initial.sitting.me.0.tries ≡ l.initial.steps.count + l.sitting.me.0.tries;
  few : l.steps.count ≤ l.initial.steps.count + (l.note - l.from);
}
