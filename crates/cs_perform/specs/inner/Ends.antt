-- The end of a file.
use Rattle.std.specs.Prelude.{ℕ, ◌≡◌, Bool, true, false, List, [], ◌∷◌, ◌++◌}
use Rattle.cs_base.specs.{declared.head.Head.Head, declared.width.SampleWidth.SampleWidth}
use Rattle.cs_edge.specs.Moves.{SinkTold, Wrote, Finished, Stopped}
use Rattle.cs_piece_meaning.specs.{Course.closing, Heard.frames_of, Moments.Composition}
use Rattle.cs_wav.specs.Wav.{wav_of}
use Rattle.cs_perform.specs.Performances.{HasAtLeast, file_after, front_after}
use Rattle.cs_perform.specs.declared.stand.Starts.{Starts}

-- A file that was written so far was ended, after these last bytes.
abbrev pub Finishes : List ℕ → SinkTold → SinkTold → Type 0
Finishes last before now = (start : SinkTold) (name bytes : List ℕ) → Wrote start before name bytes
    → Finished start now name (bytes ++ last)

-- Writing stopped in these last bytes of a file that was written so far; the file keeps what it had.
abbrev pub Stops : List ℕ → SinkTold → SinkTold → Type 0
Stops last before now = (start : SinkTold) (name bytes : List ℕ) → Wrote start before name bytes
    → Stopped start now name (bytes ++ last) × HasAtLeast name bytes start now

-- the byte 0 after samples of odd size
abbrev pub padding : Bool → List ℕ
padding true = 0 ∷ []
padding false = []

-- A file with the header and all samples of a piece was ended.
abbrev pub Closes : Composition → Head → SampleWidth → SinkTold → SinkTold → Type 0
Closes c head width before now = (start : SinkTold) (name : List ℕ)
    → Wrote start before name (front_after c head width c.cycles)
    → Finished start now name (wav_of (frames_of c) head width)

-- Writing stopped when a file with the header and all samples of a piece was ended.
abbrev pub Breaks : Composition → Head → SampleWidth → SinkTold → SinkTold → Type 0
Breaks c head width before now = (start : SinkTold) (name : List ℕ)
    → Wrote start before name (front_after c head width c.cycles)
    → Stopped start now name (file_after c head width c.cycles)
    × HasAtLeast name (front_after c head width c.cycles) start now

-- all starts of a piece, those at the very end included
pub record AreStartsOf (c : Composition) (s : Starts) : Type 0 where
  pub started : s.started ≡ (closing c).started
  pub not_started : s.not_started ≡ (closing c).not_started
