use Rattle.std.proofs.Common.{◌≡◌, drop}
use Rattle.cs_board.specs.{Board.plan, Board.name, Plans.places_written}
use Rattle.cs_board.specs.Resting.{IsSole, areas_in, known_in}
use Rattle.cs_desk.specs.inner.Resting.{ClearsTurns}
use Rattle.cs_desk.proofs.rest.clear_turns.Given as goal

abbrev pub invariant-loop-area : goal.invariant-loop-area
invariant-loop-area g l = record {
  sole : IsSole (name l.board) l.seat;
  areas : areas_in l.seat ≡ areas_in l.initial.seat;
  cleared : ClearsTurns (plan l.board) (places_written g.J.Job.means (plan l.board) l.note)
      (drop l.area-index (places_written g.J.Job.means (plan l.board) l.note)) (known_in l.initial.seat)
      (known_in l.seat);
}
