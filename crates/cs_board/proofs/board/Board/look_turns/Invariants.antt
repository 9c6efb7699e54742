use Rattle.std.proofs.Common.{◌≡◌, ◌*◌, ◌≤◌, take}
use Rattle.std.specs.List.{sum_by}
use Rattle.cs_board.specs.{Board.plan, inner.Sittings.IsSittingOf, Plans.places_used, Plans.writers_before}
use Rattle.cs_board.proofs.board.Board.look_turns.Given as goal

abbrev pub invariant-loop-area : goal.invariant-loop-area
invariant-loop-area g l = record {
  sitting : IsSittingOf g.J.Job.means l.self l.sitting;
  me : l.sitting.me ≡ l.initial.sitting.me;
  turns : l.turns ≡ sum_by (λ r. writers_before g.J.Job.means (plan l.self) l.note r)
      (take l.area-index (places_used g.J.Job.means (plan l.self) l.note));
  few : l.turns ≤ l.area-index * 4294967296;
}
