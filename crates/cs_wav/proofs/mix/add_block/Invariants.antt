use Rattle.std.proofs.Common.{◌≡◌, ℕ, ◌<◌, ◌++◌, get_or, pos, take, drop}
use Rattle.cs_base.specs.Numbers.{IsRaw}
use Rattle.cs_wav.specs.Wav.{added}
use Rattle.cs_wav.proofs.mix.add_block.Given as goal

-- the values so far are sums, and the values from this index on are unchanged
abbrev pub invariant-loop-i : goal.invariant-loop-i
invariant-loop-i l = record {
  sums : l.mix ≡ take l.i (added l.initial.mix l.part) ++ drop l.i l.initial.mix;
  raw : (j : ℕ) → j < l.i → IsRaw (get_or l.part j (pos 0));
}
