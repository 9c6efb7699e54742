use Rattle.std.proofs.Common.{◌≡◌, ◌+◌, ◌++◌, length, reverse}
use Rattle.std.specs.Vec.{vec_len, vec_capacity}
use Rattle.cs_row.proofs.memory.take_room.Given as goal

abbrev pub invariant-loop : goal.invariant-loop
invariant-loop g l = record {
  moved : l.room.notes.items ++ reverse l.notes.items ≡ reverse l.initial.notes.items;
  count : length l.room.notes.items ≡ l.counter;
  left : vec_len l.notes + l.counter ≡ vec_len l.initial.notes;
  places : vec_capacity l.room.notes ≡ vec_capacity l.initial.room.notes;
  sum : l.room.sum ≡ l.initial.room.sum;
  capacity : vec_capacity l.notes ≡ vec_capacity l.initial.notes;
}
