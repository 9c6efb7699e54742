-- What a shelf tells about a source that was read.
use Rattle.std.specs.Prelude.{ℕ, ◌≡◌, ◌≤◌, ◌+◌, ◌*◌, ◌⊎◌, Bool, true, false, List, [], ◌++◌, drop, if◌then◌else◌}
use Rattle.std.specs.Prelude.{Option, Some, None, Result, ⊤}
use Rattle.cs_base.specs.Limits.{most_csd_bytes, most_orchestra_bytes, most_score_bytes, most_wav_bytes}
use Rattle.cs_base.specs.{declared.width.SampleWidth.SampleWidth, declared.refusal.Refusal.Refusal}
use Rattle.cs_piece.specs.Setups.{SetupData}
use Rattle.cs_piece_meaning.specs.Moments.{Composition}
use Rattle.cs_edge.specs.{Files.ShelfTold, Files.file_named, Moves.Grown, Moves.IsFrontOf, Moves.IsRun, Told.Follows}
use Rattle.cs_edge.specs.{Told.Rose, declared.files.NamedBytes.NamedBytes, declared.moves.Move.Move}
use Rattle.cs_edge.specs.{declared.moves.Move.TheVariants.Read}
use Rattle.cs_arguments.specs.Reading.{AskedPiece, two_files, one_file, demo}
use Rattle.cs_source.specs.{Meaning.Mean, Texts.is_too_long}
use Rattle.cs_source.specs.Texts.{Texts, both, csd, demo_notes, Fit, Have, HaveWhereTold, IsNameOf, LackWhereTold}
use Rattle.cs_wav.specs.Wav.{size_of}

-- Some texts of a source mean this, and if the shelf tells its files, the files have these texts.
pub record SourceMeans (before : ShelfTold) (width : SampleWidth) (piece : AskedPiece) (r : Result Composition Refusal)
    : Type 0 where
  pub texts : Texts
  pub fit : Fit piece texts
  pub have : HaveWhereTold before.files piece texts
  pub mean : Mean width texts r

-- the samples of a piece, in this width, fit into a sound file
abbrev pub FitsFile : SampleWidth → SetupData → Type 0
FitsFile width s = size_of width (s.plot.cycles * s.orchestra.head.ksmps) s.orchestra.head ≤ most_wav_bytes

-- a text exists, and is an orchestra that is too long
abbrev pub is_there_too_long : Option (List ℕ) → Bool
is_there_too_long None = false
is_there_too_long (Some orchestra) = is_too_long orchestra

-- the shelf tells its files, which contain an orchestra with this name that is too long
abbrev pub is_told_too_long : Option (List NamedBytes) → List ℕ → Bool
is_told_too_long None orc = false
is_told_too_long (Some files) orc = is_there_too_long (file_named orc files)

-- the moves of a score that is read completely; it isn't opened if the told files have an orchestra that is
-- too long
abbrev pub IsScoreRun : Bool → List ℕ → List Move → Type 0
IsScoreRun true sco moves = moves ≡ []
IsScoreRun false sco moves = IsRun sco Read moves

-- the moves of a shelf whose source is read completely: a begin and reads for each name that is opened, none
-- for the demo
abbrev pub AreReadings : Option (List NamedBytes) → AskedPiece → List Move → Type 0
AreReadings files (two_files orc sco) moves =
    (first second : List Move) × IsRun orc Read first × IsScoreRun (is_told_too_long files orc) sco second
    × (moves ≡ first ++ second)
AreReadings files (one_file name) moves = IsRun name Read moves
AreReadings files (demo n) moves = moves ≡ []

-- the demo leaves a shelf as it was
abbrev pub AsItWasForDemo : ShelfTold → ShelfTold → AskedPiece → Type 0
AsItWasForDemo before now (demo n) = now ≡ before
AsItWasForDemo before now _ = ⊤

-- A source was read, completely or up to some point.
pub record WasRead (before now : ShelfTold) (piece : AskedPiece) : Type 0 where
  pub later : before.faults ≤ now.faults
  pub moves : Follows before.moves now.moves (Grown (IsFrontOf (AreReadings before.files piece)))
  pub untouched : AsItWasForDemo before now piece

-- the rest of the text opened last, of which one byte more than its limit was read; the demo opens none
abbrev pub left_of : Option (List ℕ) → Texts → Option (List ℕ)
left_of before (both orchestra score) =
    if is_too_long orchestra then Some (drop (most_orchestra_bytes + 1) orchestra)
    else Some (drop (most_score_bytes + 1) score)
left_of before (csd text) = Some (drop (most_csd_bytes + 1) text)
left_of before (demo_notes n) = before

-- the shelf has the rest of the text opened last, if it tells its files
abbrev pub IsLeftWhereTold : Option (List NamedBytes) → AskedPiece → Option (List ℕ) → Option (List ℕ) → Type 0
IsLeftWhereTold None piece before now = ⊤
IsLeftWhereTold (Some files) piece before now = (texts : Texts) × Have files piece texts × (now ≡ left_of before texts)

-- No more of the texts was read, if the shelf tells its files.
abbrev pub LeavesUnread : ShelfTold → ShelfTold → AskedPiece → Type 0
LeavesUnread before now piece = IsLeftWhereTold before.files piece before.left now.left

-- The source of a piece was read, without a failed call, and means this: some texts mean it, and if the shelf
-- tells its files, the texts are theirs. Of each text, the shelf still has what comes after one byte past its
-- limit.
pub record IsLoaded (before now : ShelfTold) (width : SampleWidth) (piece : AskedPiece) (r : Result Composition Refusal)
    : Type 0 where
  pub means : SourceMeans before width piece r
  pub rest : LeavesUnread before now piece
  pub same : now.faults ≡ before.faults

-- if the shelf tells its moves, the last begin is of this name, and only reads come after it
abbrev pub IsLastBegun : Option (List Move) → List ℕ → Type 0
IsLastBegun None name = ⊤
IsLastBegun (Some moves) name = (earlier last : List Move) × IsRun name Read last × (moves ≡ earlier ++ last)

-- A name of the source can't be read, the one opened last: the shelf failed, or tells files that lack this
-- name.
pub record CannotRead (before now : ShelfTold) (piece : AskedPiece) (name : List ℕ) : Type 0 where
  pub one : IsNameOf piece name
  pub last : IsLastBegun now.moves name
  pub cause : Rose before.faults now.faults ⊎ LackWhereTold before.files piece name
