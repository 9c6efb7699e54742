use Rattle.std.proofs.Common.{◌≡◌, ◌≤◌, length, take}
use Rattle.std.specs.Vec.{vec_capacity}
use Rattle.cs_board.specs.{Board.plan, Board.name, Resting.IsSole, Resting.areas_in, Resting.known_in}
use Rattle.cs_desk.specs.inner.Resting.{IsClearing}
use Rattle.cs_cells.specs.Serial.{serial_jobs}
use Rattle.cs_desk.proofs.rest.clear.Given as goal

abbrev pub invariant-loop-note : goal.invariant-loop-note
invariant-loop-note g l = record {
  low : l.note ≤ (plan l.board).notes;
  jobs : l.room.items ≡ take l.note (serial_jobs g.J.Job.means (plan l.board).jobs (plan l.board).cells);
  room : (plan l.board).notes ≤ vec_capacity l.room;
  sole : IsSole (name l.board) l.seat;
  areas : areas_in l.seat ≡ areas_in l.initial.seat;
  clearing : IsClearing g.J.Job.means (plan l.board) l.note (known_in l.seat);
  slots : length (known_in l.seat).homes ≡ length (known_in l.initial.seat).homes;
}
