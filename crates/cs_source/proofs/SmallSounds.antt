-- The sound file of two small texts.
use Rattle.std.proofs.Common.{◌≡◌, ◌∷◌, ℕ, ℤ, List, [], Ok, refl, sym, subst, arith}
use Rattle.cs_base.specs.{Lines.whole_file, declared.head.Head.Head, declared.width.SampleWidth.SampleWidth}
use Rattle.cs_base.specs.declared.width.SampleWidth.TheVariants.{TwoBytes, ThreeBytes}
use Rattle.cs_compile.specs.{Meaning.means, Worked.fourth_field, Worked.note_of_100, Worked.whole}
use Rattle.cs_piece_meaning.specs.{Heard.frames_of, Moments.Composition}
use Rattle.cs_source.specs.{Sounds.IsSoundOf, Texts.both, Worked.narrow_file, Worked.wide_file}
use Rattle.cs_typed.specs.Places.{Header}
use Rattle.cs_wav.specs.Wav.{header_bytes, samples_of, wav_of}

abbrev numbers : Head
numbers = record {
  sr = 8;
  ksmps = 1;
  nchnls = 1;
  dbfs = whole 32768;
  sr_in_range = (omega arith, omega arith);
  ksmps_in_range = (omega arith, omega arith);
  nchnls_in_range = (omega arith, omega arith);
  dbfs_above_zero = omega arith;
}

abbrev header : Header
header = record { sr = 8; ksmps = 1; nchnls = 1; dbfs = whole 32768 }

abbrev frames : List ℤ
frames = whole 100 ∷ whole 100 ∷ []

narrow_bytes : narrow_file ≡ wav_of frames numbers TwoBytes
unfolding wav_of header_bytes samples_of
narrow_bytes = refl

wide_bytes : wide_file ≡ wav_of frames numbers ThreeBytes
unfolding wav_of header_bytes samples_of
wide_bytes = refl

-- the file of a composition with these frames
abbrev Heard : SampleWidth → Type 0
Heard width =
    (c : Composition) × means width (whole_file fourth_field) (whole_file note_of_100) (Ok c) × (c.head ≡ header)
    × (frames_of c ≡ frames)

heard_as : (width : SampleWidth) (bytes : List ℕ) → bytes ≡ wav_of frames numbers width → Heard width
    → IsSoundOf (both fourth_field note_of_100) width bytes
heard_as width bytes e h = record {
  c = h.0;
  means = h.1;
  head = numbers;
  head_is = sym h.2;
  is = subst (λ (f : List ℤ). bytes ≡ wav_of f numbers width) (sym h.3) e;
}

pub narrow_sound : Heard TwoBytes → IsSoundOf (both fourth_field note_of_100) TwoBytes narrow_file
narrow_sound h = heard_as TwoBytes narrow_file narrow_bytes h

pub wide_sound : Heard ThreeBytes → IsSoundOf (both fourth_field note_of_100) ThreeBytes wide_file
wide_sound h = heard_as ThreeBytes wide_file wide_bytes h
