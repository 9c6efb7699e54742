use Rattle.std.specs.Prelude.{ℕ, List, Bool, ◌==◌, ◌/◌, ◌%◌, slice_index}
use Rattle.std.specs.Int.{bit_at}

-- whether a set of notes, as 64-bit words, contains a note
unfoldable pub has : List ℕ → ℕ → Bool
has words note = bit_at (slice_index words (note / 64)) (note % 64) == 1
