use Rattle.std.proofs.Common.{◌≡◌, ◌≤◌, ◌+◌, ℕ, length, take, drop, reverse}
use Rattle.std.specs.{List.All, Vec.vec_capacity}
use Rattle.cs_row.specs.{Cuts.IsCut, Rooms.IsEmptied, Rooms.IsWide, Laws.jobs_of, Rows.notes_in}
use Rattle.cs_row.proofs.memory.fill_rows.Given as goal

-- the first rows are filled, and the notes of the others remain, the last one first
abbrev pub invariant-loop-at : goal.invariant-loop-at
invariant-loop-at g l = record {
  low : l.at ≤ length l.cuts;
  each : (most : ℕ) (cut : IsCut g.J.Job.means most l.fn.notes.items l.cuts)
      → (jobs_of l.rows.items ≡ take l.at cut.rows) × ((reverse l.notes.items ≡ notes_in (drop l.at cut.rows))
      × (l.first ≡ length (notes_in (take l.at cut.rows))));
  rooms : length l.rooms.items + l.at ≡ length l.initial.rooms.items;
  wide : (most : ℕ) → All (IsWide most) l.initial.rooms.items → All (IsWide most) l.rooms.items;
  empty : (block : ℕ) → All (IsEmptied block) l.initial.rooms.items → All (IsEmptied block) l.rooms.items;
  sums : (block : ℕ) → All (IsEmptied block) l.initial.rooms.items → All (λ r. length r.sum ≡ block) l.rows.items;
  places : vec_capacity l.rows ≡ vec_capacity l.initial.rows;
  filled : length l.rows.items ≡ l.at;
  capacity : vec_capacity l.notes ≡ vec_capacity l.initial.notes;
}
