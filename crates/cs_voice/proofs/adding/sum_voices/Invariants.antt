use Rattle.std.proofs.Common.{◌≡◌, ℕ, ◌+◌, ◌<◌, get_or, pos, take, length}
use Rattle.cs_voice.specs.Mixing.{sum_at}
use Rattle.cs_row.specs.Heard.{IsSumOf}
use Rattle.cs_voice.proofs.adding.sum_voices.Given as goal

-- the frames have the sums of the voices so far
abbrev pub invariant-loop-voice : goal.invariant-loop-voice
invariant-loop-voice l = record {
  sums : (j : ℕ) → j < length l.initial.sums
      → get_or l.sums j (pos 0) ≡ sum_at (take l.voice-index l.voices) (l.from + j) l.channel;
  near : (j : ℕ) → j < length l.initial.sums → IsSumOf l.voice-index (get_or l.sums j (pos 0));
  long : length l.sums ≡ length l.initial.sums;
}
