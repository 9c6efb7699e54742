use Rattle.std.proofs.Common.{◌≡◌, ◌≤◌, ℕ, length, take}
use Rattle.std.specs.List.{All}
use Rattle.cs_row.specs.Rooms.{IsEmptied, IsWide}
use Rattle.cs_row.proofs.memory.widen.Given as goal

abbrev pub invariant-loop-at : goal.invariant-loop-at
invariant-loop-at g l = record {
  long : length l.rooms ≡ length l.initial.rooms;
  low : l.at ≤ length l.rooms;
  wide : All (IsWide l.most) (take l.at l.rooms);
  empty : (block : ℕ) → All (IsEmptied block) l.initial.rooms → All (IsEmptied block) l.rooms;
}
