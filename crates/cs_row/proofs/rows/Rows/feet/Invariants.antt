use Rattle.std.proofs.Common.{◌≡◌, ◌≤◌, length, map, take}
use Rattle.std.specs.Vec.{vec_capacity}
use Rattle.cs_row.specs.{Cuts.IsCut, Rows.notes_in, Rows.row_foot}
use Rattle.cs_row.proofs.rows.Rows.feet.Given as goal

-- the footprints so far belong to the first rows, whose notes come before the next one
abbrev pub invariant-loop-at : goal.invariant-loop-at
invariant-loop-at g l = record {
  low : l.at ≤ length l.self.cuts.items;
  room : length l.self.cuts.items ≤ vec_capacity l.feet;
  count : length l.feet.items ≡ l.at;
  each : (cut : IsCut g.J.Job.means l.self.most l.notes l.self.cuts.items)
      → (l.feet.items ≡ map (row_foot g.J.Job.means) (take l.at cut.rows))
      × (l.first ≡ length (notes_in (take l.at cut.rows)));
}
