use Rattle.std.proofs.Common.{◌≡◌, ◌<◌, ℕ, take}
use Rattle.std.specs.List.{list_any}
use Rattle.cs_piece.specs.inner.Marked.{codes_store, is_marked, numbers_end}
use Rattle.cs_piece.proofs.written.written_by.Given as goal

abbrev pub invariant-loop-instrument : goal.invariant-loop-instrument
invariant-loop-instrument l =
    (n : ℕ) → n < numbers_end → is_marked l.written n ≡ list_any (codes_store n) (take l.instrument-index l.instruments)
