use Rattle.std.proofs.Common.{◌≡◌, ℕ, ◌<◌, ◌*◌, length}
use Rattle.cs_row.specs.Heard.{IsSumOf}
use Rattle.cs_voice.specs.{Mixing.sum_at, inner.Places.place}
use Rattle.cs_voice.proofs.adding.mix.Given as goal

-- the channels before this one have their sums
abbrev pub invariant-loop-channel : goal.invariant-loop-channel
invariant-loop-channel l = record {
  sums : (j c : ℕ) → j < l.frames → c < l.channel → place l.channels l.out j c ≡ sum_at l.voices j c;
  small : (j c : ℕ) → j < l.frames → c < l.channel → IsSumOf (length l.voices) (sum_at l.voices j c);
  long : length l.out ≡ l.frames * l.channels;
}
