use Rattle.std.proofs.Common.{◌≡◌, ◌≤◌, ◌<◌, ℕ, length, map, take, pos}
use Rattle.std.specs.Prelude.{slice_index_or}
use Rattle.cs_base.specs.Numbers.{total}
use Rattle.cs_row.specs.{Heard.AreSumsOf, Laws.all_notes}
use Rattle.cs_row.proofs.sums.sum_rows.Given as goal

abbrev pub invariant-loop-at : goal.invariant-loop-at
invariant-loop-at g l = record {
  low : l.at ≤ length l.rows;
  long : length l.block ≡ length l.initial.block;
  sums : (k : ℕ) → k < length l.block
      → slice_index_or l.block k (pos 0) ≡ total (map (λ r. slice_index_or r.sum k (pos 0)) (take l.at l.rows));
  small : AreSumsOf (length (all_notes (take l.at l.rows))) l.block;
}
