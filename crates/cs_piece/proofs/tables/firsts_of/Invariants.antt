use Rattle.std.proofs.Common.{◌≡◌, length, take}
use Rattle.std.specs.List.{All}
use Rattle.cs_piece.specs.Tables.{given_in}
use Rattle.cs_piece.specs.inner.Marked.{IsRight, StandFor, given_of, numbers_end}
use Rattle.cs_piece.proofs.tables.firsts_of.Given as goal

abbrev pub invariant-loop-event : goal.invariant-loop-event
invariant-loop-event l = record {
  stand : StandFor (given_in (take l.event-index l.events)) l.given;
  long : length l.given.times.items ≡ numbers_end;
  right : All (λ x. IsRight (given_of x)) l.given.items.items;
}
