-- Frames as they are filled, channel by channel.
use Rattle.std.specs.Prelude.{ℕ, ℤ, pos, ◌+◌, ◌*◌, ◌<◌, List, length, slice_index_or}
use Rattle.cs_base.specs.Limits.{most_notes}
use Rattle.cs_row.specs.Heard.{IsSumOf}

-- the number of a frame and a channel
abbrev pub place : ℕ → List ℤ → ℕ → ℕ → ℤ
place channels out frame channel = slice_index_or out (frame * channels + channel) (pos 0)

-- Each of these numbers is the sum of fewer voices than the highest number of notes.
pub record HasRoom (numbers : List ℤ) : Type 0 where
  pub added : ℕ
  pub few : added < most_notes
  pub sums : (j : ℕ) → j < length numbers → IsSumOf added (slice_index_or numbers j (pos 0))
