use Rattle.std.proofs.Common.{◌≡◌, ◌<◌, ℕ, [], length, slice_index_or}
use Rattle.cs_ir.specs.Waves.{silence}
use Rattle.cs_machine.specs.{Rows.row_wave, inner.Kept.AreRows}
use Rattle.cs_machine.proofs.outputs.clear_all.Given as goal

-- the channels before this one are silent
abbrev pub invariant-loop-n : goal.invariant-loop-n
invariant-loop-n l = record {
  silent : (m : ℕ) → m < l.n → row_wave (slice_index_or l.channels m []) ≡ silence;
  rows : (ksmps : ℕ) → AreRows ksmps l.initial.channels → AreRows ksmps l.channels;
  long : length l.channels ≡ length l.initial.channels;
}
