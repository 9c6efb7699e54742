-- What a voice means as a job.
use Rattle.std.specs.Prelude.{◌≡◌, true, length}
use Rattle.cs_ir.specs.Validity.{valid}
use Rattle.cs_cells.specs.{Cells.Cells, Meaning.Meaning}
use Rattle.cs_machine.specs.{Outputs.outs, Outputs.refilled, Registers.filled, Registers.values}
use Rattle.cs_voice_meaning.specs.{Room.channels_for, Voices.Sheet, Voices.IsPlayable, Voices.performed, Voices.left_by}
use Rattle.cs_voice.specs.VoiceData.{VoiceData, IsOn, sheet_of, sounding, sounding_on, taking}

-- The invariant of each voice: its code is valid and can be played; it has the registers, units and channels
-- that its code and its piece need, with the right number of frames; and registers and channels are
-- determined by their values.
pub record IsVoice (d : VoiceData) : Type 0 where
  pub playable : IsPlayable (sheet_of d)
  pub code : valid d.code ≡ true
  pub counts : d.regs.counts ≡ d.code.counts
  pub frames : d.regs.ksmps ≡ d.head.ksmps
  pub units : length d.units ≡ d.code.counts.units
  pub channels : length d.outs.rows ≡ channels_for d.code.counts d.head.nchnls
  pub channel_frames : d.outs.ksmps ≡ d.head.ksmps
  pub all_registers : filled d.regs (values d.regs) ≡ d.regs
  pub all_channels : refilled d.outs (outs d.outs) ≡ d.outs

-- the voice after a cycle on cells
abbrev pub after : VoiceData → Cells → VoiceData
after d c = taking d (performed (sounding d) c)

-- the cells after a cycle of the voice
abbrev pub leaves : VoiceData → Cells → Cells
leaves d c = left_by (sounding d) c

-- a voice as a job
abbrev pub voice_job : Meaning VoiceData
voice_job = record {
  areas = λ d. d.zones;
  foot = λ d. d.foot;
  after = after;
  leaves = leaves;
  valid = IsVoice;
}

-- A run of a voice is a cycle of the voice of the definitions, with any sheet that it plays from.
pub record Performs (s : Sheet) (d : VoiceData) (c : Cells) : Type 0 where
  pub voice : sounding_on s (after d c) ≡ performed (sounding_on s d) c
  pub cells : leaves d c ≡ left_by (sounding_on s d) c
  pub sheet : IsOn s (after d c)
  pub valid : IsVoice (after d c)
