-- THE PAGE: the result of a run of the program, with a constructor for each status. The law
-- `runs_are_as_the_page_says` proves it of every run. It is to be read together with `reading` (what
-- arguments ask for), `Mean` and `IsSoundOf` (what texts mean, and their sound), `report_of` and `message_of`
-- (what is printed), `Finished`, `Stopped` and `Wrote` (what was written to a file), `WroteMore` and
-- `WrotePart` (what was printed). Files may tell their contents, or, like real ones, only how often a call on
-- them failed; what they don't tell is left open.
use Rattle.std.specs.Prelude.{ℕ, ◌≡◌, ◌⊎◌, Bool, true, false, List, [], Ok, Err, Some, None}
use Rattle.cs_arguments.specs.Reading.{Asked, Text, reading}
use Rattle.cs_base.specs.declared.refusal.Refusal.{Refusal}
use Rattle.cs_edge.specs.{Files.ShelfTold, Told.IsFront, Told.Rose}
use Rattle.cs_edge.specs.Moves.{Finished, SinkTold, Stopped, WroteMore, Wrote, WrotePart}
use Rattle.cs_piece_meaning.specs.Moments.{Composition}
use Rattle.cs_play.specs.Report.{report_of}
use Rattle.cs_report.specs.{Status.refusal, Talk.Says, Talk.message_of, declared.status.Status.Status}
use Rattle.cs_source.specs.{Loaded.CannotRead, Meaning.Mean, Sounds.IsSoundOf}
use Rattle.cs_source.specs.Texts.{Fit, HaveWhereTold, Texts}
use Rattle.cs_report.specs.declared.status.Status.TheVariants as status

-- The world outside the program at one moment, as far as it tells: the files to read, the sound file, and the
-- output on which lines are printed.
pub record Outside : Type 0 where
  pub shelf : ShelfTold
  pub file : SinkTold
  pub talk : SinkTold

-- P holds for the sound of the texts, in the width asked for, if it is written; with `-n` the file received
-- no call.
abbrev pub Sounds : Bool → Asked → Texts → SinkTold → SinkTold → (List ℕ → Type 0) → Type 0
Sounds true a t before now P = now ≡ before
Sounds false a t before now P = (sound : List ℕ) × IsSoundOf t a.width sound × P sound

-- The arguments ask for this, and these are its texts, which the files contain if the shelf tells its files;
-- no call to read failed.
pub record HasRead (words : List Text) (before now : ShelfTold) (a : Asked) (t : Texts) : Type 0 where
  pub asked : reading words ≡ Some a
  pub fit : Fit a.piece t
  pub have : HaveWhereTold before.files a.piece t
  pub same : now.faults ≡ before.faults

-- How the run ends, if its meters have these lines by then. `Finished`, `Wrote` and `WroteMore` state that no
-- call failed, `WrotePart` that one did.
pub data Ends (words : List Text) (meters : List ℕ) (before now : Outside) : Status → Type 0 where
  usage : reading words ≡ None → now.shelf ≡ before.shelf → now.file ≡ before.file
      → Says before.talk now.talk (message_of status.Usage []) → Ends words meters before now status.Usage
  unread : (a : Asked) (name : List ℕ) → reading words ≡ Some a → CannotRead before.shelf now.shelf a.piece name
      → now.file ≡ before.file
      → Says before.talk now.talk (message_of status.ShelfFault name) → Ends words meters before now status.ShelfFault
  refused : (a : Asked) (t : Texts) (r : Refusal) → HasRead words before.shelf now.shelf a t → Mean a.width t (Err r)
      → now.file ≡ before.file
      → Says before.talk now.talk (message_of (refusal r) []) → Ends words meters before now (refusal r)
  played : (a : Asked) (t : Texts) (c : Composition) → HasRead words before.shelf now.shelf a t
      → Mean a.width t (Ok c)
      → Sounds a.silent a t before.file now.file (Finished before.file now.file a.sound_file)
      → WroteMore before.talk now.talk (report_of c a meters) → Ends words meters before now status.Ok
  unsaid : (a : Asked) (t : Texts) (c : Composition) → HasRead words before.shelf now.shelf a t
      → Mean a.width t (Ok c)
      → Sounds a.silent a t before.file now.file (Finished before.file now.file a.sound_file)
      → WrotePart before.talk now.talk (report_of c a meters) → Ends words meters before now status.TalkFault
  unwritten : (a : Asked) (t : Texts) (sound : List ℕ) → HasRead words before.shelf now.shelf a t
      → IsSoundOf t a.width sound → a.silent ≡ false
      → Stopped before.file now.file a.sound_file sound → Rose before.file.faults now.file.faults
      → Says before.talk now.talk (message_of status.SinkFault []) → Ends words meters before now status.SinkFault
  -- memory may run out at any time: before the file is opened, or with a prefix of the sound in it
  starved : now.shelf.faults ≡ before.shelf.faults
      → (now.file ≡ before.file) ⊎ ((a : Asked) × (t : Texts) × (sound front : List ℕ)
      × HasRead words before.shelf now.shelf a t × IsSoundOf t a.width sound × IsFront front sound
      × (a.silent ≡ false) × Wrote before.file now.file a.sound_file front)
      → Says before.talk now.talk (message_of status.OutOfMemory []) → Ends words meters before now status.OutOfMemory
