use Rattle.std.proofs.Common.{◌≡◌, length}
use Rattle.std.specs.List.{All}
use Rattle.cs_row.specs.Rooms.{IsEmptied, IsWide}
use Rattle.cs_row.proofs.memory.add_rooms.Given as goal

abbrev pub invariant-loop : goal.invariant-loop
invariant-loop g l = record {
  count : length l.rooms.items ≡ l.counter;
  wide : All (IsWide l.most) l.rooms.items;
  empty : All (IsEmptied l.block) l.rooms.items;
}
