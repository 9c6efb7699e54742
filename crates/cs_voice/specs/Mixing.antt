-- The sum of voices.
use Rattle.std.specs.Prelude.{ℕ, ℤ, ◌/◌, ◌%◌, List, map, refl}
use Rattle.std.specs.List.{flat_map, range_with_len}
use Rattle.cs_base.specs.Numbers.{total}
use Rattle.cs_machine.specs.Outputs.{outs}
use Rattle.cs_voice.specs.{VoiceData.VoiceData, VoiceMeaning.voice_job}
use Rattle.cs_row.specs.Heard.{KeepsShape}

-- the sum of the voices' samples in a channel at a frame: the plain sum, without bounds
abbrev pub sum_at : List VoiceData → ℕ → ℕ → ℤ
sum_at voices frame channel = total (map (λ (v : VoiceData). outs v.outs channel frame) voices)

-- all sums of a cycle of `ksmps` frames: frame by frame, the channels of a frame next to each other
abbrev pub mixed : ℕ → ℕ → List VoiceData → List ℤ
mixed ksmps nchnls voices =
    flat_map (λ frame. map (sum_at voices frame) (range_with_len 0 nchnls)) (range_with_len 0 ksmps)

-- the numbers of frames and channels of a voice
abbrev pub shape : VoiceData → ℕ × ℕ
shape v = (v.outs.ksmps, v.head.nchnls)

-- the sample of a voice at an index of a block
abbrev pub gives : VoiceData → ℕ → ℤ
gives v at = outs v.outs (at % v.head.nchnls) (at / v.head.nchnls)

pub keeps_shape : KeepsShape voice_job shape
keeps_shape v c = refl
