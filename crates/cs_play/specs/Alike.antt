-- What two runs have in common, and the texts of a run.
use Rattle.std.specs.Prelude.{◌≡◌, false, List, Option, Some, None, Ok, ⊤}
use Rattle.cs_piece_meaning.specs.Moments.{Composition}
use Rattle.cs_edge.specs.{Moves.Held, Moves.WroteMore, Told.Rose, declared.files.NamedBytes.NamedBytes}
use Rattle.cs_play.specs.{Endings.WasPerformed, Endings.report_in, Report.meter_lines, Scene.Scene, Scene.Sight}
use Rattle.cs_arguments.specs.Reading.{Asked, AskedPiece, demo}
use Rattle.cs_source.specs.{Loaded.SourceMeans, Texts.Texts, Texts.Have, Texts.demo_notes}

-- The texts of a piece: the demo's, or those that the told files have.
abbrev pub AreTexts : Option (List NamedBytes) → AskedPiece → Texts → Type 0
AreTexts files (demo n) texts = texts ≡ demo_notes n
AreTexts None piece texts = ⊥
AreTexts (Some files) piece texts = Have files piece texts

-- The arguments ask for the same piece and the same width of its samples. Everything else may differ: the
-- name of the sound file and whether it is written, workers, turns and pool.
pub record AskAlike (a b : Asked) : Type 0 where
  pub piece : a.piece ≡ b.piece
  pub width : a.width ≡ b.width

-- Two shelves tell the same files. For the demo they may tell anything.
abbrev pub TellAlike : AskedPiece → Option (List NamedBytes) → Option (List NamedBytes) → Type 0
TellAlike (demo n) a b = ⊤
TellAlike piece a b = (files : List NamedBytes) × (a ≡ Some files) × (b ≡ Some files)

-- Two sinks contain the same bytes, if both tell their contents.
abbrev pub HoldAlike : Option Held → Option Held → Type 0
HoldAlike (Some a) (Some b) = a.bytes ≡ b.bytes
HoldAlike _ _ = ⊤

-- Two runs performed the same composition, which their texts mean, so that their meters received the same
-- frames, and each cycle of either run was counted by the voices that were heard in it. Each printed its
-- report, and the two reports are the same if both runs or neither ask for turns and the lines of the meters
-- are the same. If both wrote sound files, the two are the same byte for byte.
pub record SoundAlike {F K T B C F' K' T' B' C' : Type 0} (see : Sight F K T B C) (see' : Sight F' K' T' B' C')
    (a b : Asked)
    (before now : Scene F K T B C) (before' now' : Scene F' K' T' B' C') : Type 0 where
  pub c : Composition
  pub means : SourceMeans (see.shelf before.shelf) a.width a.piece (Ok c)
  pub means' : SourceMeans (see'.shelf before'.shelf) b.width b.piece (Ok c)
  pub performed : WasPerformed see a c before now
  pub performed' : WasPerformed see' b c before' now'
  pub report : WroteMore (see.talk before.talk) (see.talk now.talk) (report_in see a c now)
  pub report' : WroteMore (see'.talk before'.talk) (see'.talk now'.talk) (report_in see' b c now')
  pub same_report : a.turns ≡ b.turns → meter_lines see.line now.taps ≡ meter_lines see'.line now'.taps
      → report_in see a c now ≡ report_in see' b c now'
  pub bytes : a.silent ≡ false → b.silent ≡ false → HoldAlike (see.wav now.wav).held (see'.wav now'.wav).held

-- Nothing failed in a run: no count of faults rose.
pub record HadNoFault {F K T B C : Type 0} (see : Sight F K T B C) (before now : Scene F K T B C) : Type 0 where
  pub shelf : ¬ (Rose (see.shelf before.shelf).faults (see.shelf now.shelf).faults)
  pub wav : ¬ (Rose (see.wav before.wav).faults (see.wav now.wav).faults)
  pub talk : ¬ (Rose (see.talk before.talk).faults (see.talk now.talk).faults)
