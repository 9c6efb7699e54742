use Rattle.std.proofs.Common.{◌≡◌, ◌≤◌, ◌<◌, ◌+ℤ◌, ℕ, length, pos}
use Rattle.std.specs.Prelude.{slice_index_or}
use Rattle.cs_row.proofs.sums.add_sum.Given as goal

abbrev pub invariant-loop-at : goal.invariant-loop-at
invariant-loop-at l = record {
  low : l.at ≤ length l.initial.block;
  long : length l.block ≡ length l.initial.block;
  added : (k : ℕ) → k < l.at
      → slice_index_or l.block k (pos 0) ≡ slice_index_or l.initial.block k (pos 0) +ℤ slice_index_or l.sum k (pos 0);
  rest : (k : ℕ) → l.at ≤ k → slice_index_or l.block k (pos 0) ≡ slice_index_or l.initial.block k (pos 0);
}
