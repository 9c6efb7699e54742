use Rattle.std.proofs.Common.{◌≡◌, ◌<◌, ◌≤◌, ◌||◌, ◌&&◌, ℕ, false, length, max, nat_le, nat_lt, slice_index_or}
use Rattle.cs_piece.specs.inner.Marked.{numbers_end}
use Rattle.cs_piece.proofs.written.mark_span.Given as goal

abbrev pub invariant-loop-number : goal.invariant-loop-number
invariant-loop-number l = record {
  long : length l.numbers ≡ numbers_end;
  low : l.first ≤ l.number;
  high : l.number ≤ max l.end l.first;
  marked : (n : ℕ) → n < numbers_end → slice_index_or l.numbers n
      false ≡ (slice_index_or l.initial.numbers n false || (nat_le l.first n && nat_lt n l.number));
}
