use Rattle.std.proofs.Common.{◌≡◌, ◌≢◌, ℕ, ◌+◌, ◌<◌, get_or, pos, length}
use Rattle.cs_voice.specs.inner.Places.{place}
use Rattle.cs_voice.proofs.adding.put.Given as goal

-- the frames before this one have their sums
abbrev pub invariant-loop-j : goal.invariant-loop-j
invariant-loop-j l = record {
  sums : (i : ℕ) → i < l.j → place l.channels l.out (l.from + i) l.channel ≡ get_or l.sums i (pos 0);
  before : (i : ℕ) → i < l.from → place l.channels l.out i l.channel ≡ place l.channels l.initial.out i l.channel;
  others : (i c : ℕ) → c < l.channels → c ≢ l.channel → place l.channels l.out i c ≡ place l.channels l.initial.out i c;
  long : length l.out ≡ length l.initial.out;
}
