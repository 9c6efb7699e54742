-- The memory that a voice needs.
use Rattle.std.specs.Prelude.{ℕ, ◌≡◌, ◌+◌, ◌==◌, false, Option, None, nat_lt, if◌then◌else◌}
use Rattle.cs_ir.specs.{Registers.at_kind, Registers.rate_at, Validity.has_register}
use Rattle.cs_ir.specs.{Waves.Wave, Waves.held, Waves.silence, declared.register.Counts.Counts}
use Rattle.cs_ir.specs.declared.register.Reg.{Reg}
use Rattle.cs_voice_meaning.specs.{VoiceWorld.Playing, Voices.Sounding}
use Rattle.cs_base.specs.declared.resource.Rate.TheVariants as rate
use Rattle.cs_ir.specs.declared.register.Kind.TheVariants as kind

-- The number of channels to which a code with these registers can output: all channels, or none if the code
-- has no a-rate register.
abbrev pub channels_for : Counts → ℕ → ℕ
channels_for counts channels =
    if at_kind counts.registers kind.LocalAudio + at_kind counts.registers kind.TemporaryAudio == 0 then 0 else channels

-- The registers, units and channels of a voice fit into these numbers of registers, units, channels and
-- frames: all beyond are empty, and each register holds what its rate can hold.
pub record FitsIn (counts : Counts) (ksmps channels : ℕ) (r : Reg → Wave) (us : ℕ → Option Playing)
    (o : ℕ → Wave) : Type 0 where
  pub regs : (q : Reg) → has_register counts q ≡ false → r q ≡ silence
  pub keeps : (q : Reg) → held ksmps (rate_at q) (r q) ≡ r q
  pub units : (u : ℕ) → nat_lt u counts.units ≡ false → us u ≡ None
  pub outs : (c : ℕ) → nat_lt c channels ≡ false → o c ≡ silence
  pub frames : (c : ℕ) → held ksmps rate.Audio (o c) ≡ o c

-- a voice fits into these numbers of registers and units, and into the channels of its piece to which it can
-- output
abbrev pub VoiceFits : Counts → Sounding → Type 0
VoiceFits counts v = FitsIn counts v.sheet.piece.head.ksmps (channels_for counts v.sheet.piece.head.nchnls) v.regs
    v.units v.outs
