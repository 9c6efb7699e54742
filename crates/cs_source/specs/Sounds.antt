-- The sound of texts: the bytes of the file that they mean, whoever performs them.
use Rattle.std.specs.Prelude.{ℕ, ◌≡◌, List, Ok}
use Rattle.cs_base.specs.{declared.head.Head.Head, declared.width.SampleWidth.SampleWidth}
use Rattle.cs_piece_meaning.specs.{Heard.frames_of, Moments.Composition}
use Rattle.cs_source.specs.{Meaning.Mean, Texts.Texts}
use Rattle.cs_typed.specs.TypedTree.{header_of_head}
use Rattle.cs_wav.specs.Wav.{wav_of}

-- These bytes are the sound of texts in samples of a width: the texts mean a composition, and the bytes are
-- the WAV file of its frames.
pub record IsSoundOf (t : Texts) (width : SampleWidth) (bytes : List ℕ) : Type 0 where
  pub c : Composition
  pub means : Mean width t (Ok c)
  pub head : Head
  pub head_is : header_of_head head ≡ c.head
  pub is : bytes ≡ wav_of (frames_of c) head width
