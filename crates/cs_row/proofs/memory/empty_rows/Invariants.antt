use Rattle.std.proofs.Common.{◌≡◌, ◌≤◌, ◌+◌, ◌++◌, ℕ, length, reverse}
use Rattle.std.specs.{List.All, Vec.vec_capacity}
use Rattle.cs_row.specs.{Rooms.IsEmptied, Laws.all_notes}
use Rattle.cs_row.proofs.memory.empty_rows.Given as goal

-- the remaining rows, the last one first
abbrev pub invariant-loop : goal.invariant-loop
invariant-loop g l = record {
  left : length l.rows.items + l.counter ≡ length l.initial.rows.items;
  notes : l.notes.items ++ all_notes (reverse l.rows.items)
      ≡ l.initial.notes.items ++ all_notes (reverse l.initial.rows.items);
  capacity : vec_capacity l.initial.notes ≤ vec_capacity l.notes;
  rooms : (block : ℕ) → All (λ r. length r.sum ≡ block) l.initial.rows.items
      → All (IsEmptied block) l.initial.rooms.items
      → All (λ r. length r.sum ≡ block) l.rows.items × All (IsEmptied block) l.rooms.items;
}
