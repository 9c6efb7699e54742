use Rattle.std.proofs.Common.{◌≡◌, ◌≢◌, ℕ, ◌<◌, ◌-◌, length}
use Rattle.cs_row.specs.Heard.{IsSumOf}
use Rattle.cs_voice.specs.{Mixing.sum_at, inner.Places.place}
use Rattle.cs_voice.proofs.adding.mix_channel.Given as goal

-- the frames before this one have their sums
abbrev pub invariant-loop-from : goal.invariant-loop-from
invariant-loop-from l = record {
  sums : (j : ℕ) → j < l.from → place l.channels l.out j l.channel ≡ sum_at l.voices j l.channel;
  small : (j : ℕ) → j < l.from → IsSumOf (length l.voices) (sum_at l.voices j l.channel);
  others : (j c : ℕ) → c < l.channels → c ≢ l.channel → place l.channels l.out j c ≡ place l.channels l.initial.out j c;
  long : length l.out ≡ length l.initial.out;
}

abbrev pub decreases-loop-from : goal.decreases-loop-from
decreases-loop-from l = l.frames - l.from
