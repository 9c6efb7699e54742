-- Output channels: the samples that a note writes to each of them in a control cycle.
use Rattle.std.specs.Prelude.{ℕ, ◌≡◌, ◌==◌, ℤ, List, [], length, map, slice_index_or, if◌then◌else◌}
use Rattle.std.specs.List.{range_with_len}
use Rattle.cs_ir.specs.Waves.{Wave, both}
use Rattle.cs_machine.specs.Rows.{row_of, row_wave}
use Rattle.cs_words.specs.declared.sign.BinOp.TheVariants as op

-- A row for each channel, and the number of frames of a cycle.
pub record ChannelFile : Type 0 where
  pub rows : List (List ℤ)
  pub ksmps : ℕ

-- the value of each channel at each frame
abbrev pub outs : ChannelFile → ℕ → Wave
outs f n = row_wave (slice_index_or f.rows n [])

-- a value was added to channel c, frame by frame
pub record IsGiven (old : ChannelFile) (c : ℕ) (w : Wave) (new : ChannelFile) : Type 0 where
  pub outs : outs new ≡ (λ n. if n == c then both op.Add (outs old n) w else outs old n)
  pub channels : length new.rows ≡ length old.rows
  pub ksmps : new.ksmps ≡ old.ksmps

-- a file with the same number of channels, and these values
abbrev pub refilled : ChannelFile → (ℕ → Wave) → ChannelFile
refilled f w = record f { rows = map (λ c. row_of f.ksmps (w c)) (range_with_len 0 (length f.rows)) }
