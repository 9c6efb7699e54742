-- How a run of the program ends: for each status what has happened, and no more.
use Rattle.std.specs.Prelude.{ℕ, ◌≡◌, ◌⊎◌, Bool, true, false, List, [], Result, Ok}
use Rattle.cs_base.specs.{declared.head.Head.Head, declared.refusal.Refusal.Refusal}
use Rattle.cs_piece_meaning.specs.Moments.{Composition}
use Rattle.cs_edge.specs.{Moves.WroteMore, Moves.WrotePart, Told.Rose}
use Rattle.cs_perform.specs.Performances.{IsPart, IsPaused, IsWholePerformance, Lent, LentSight, Request, lent}
use Rattle.cs_perform.specs.{Performances.lent_sight, declared.order.Output.Output, declared.order.TurnLines.TurnLines}
use Rattle.cs_perform.specs.declared.order.PerformanceOrder.{PerformanceOrder}
use Rattle.cs_perform.specs.declared.order.Output.TheVariants.{SoundFile, Nothing}
use Rattle.cs_perform.specs.declared.order.TurnLines.TheVariants.{Told, Untold}
use Rattle.cs_play.specs.Preparing.{IsUnprepared, Reads}
use Rattle.cs_play.specs.{Report.meter_lines, Report.report_of, Scene.Scene, Scene.Sight}
use Rattle.cs_report.specs.{Talk.Says, Talk.message_of, declared.status.Status.Status}
use Rattle.cs_arguments.specs.Reading.{Asked, Text}
use Rattle.cs_source.specs.Loaded.{IsLoaded}
use Rattle.cs_typed.specs.TypedTree.{header_of_head}
use Rattle.cs_report.specs.declared.status.Status.TheVariants as status

-- the sound file is written, unless silence is asked for
abbrev pub output_of : Bool → Output
output_of true = Nothing
output_of false = SoundFile

-- the report has the lines of turns if the arguments ask for them
abbrev pub lines_of : Bool → TurnLines
lines_of true = Told
lines_of false = Untold

-- the order for the performer
abbrev pub order_of : Asked → PerformanceOrder
order_of asked = record { output = output_of asked.silent; width = asked.width; turns = lines_of asked.turns }

-- the request for the performer, with this composition of the piece and this head of its sound file
abbrev pub request_in : Asked → Composition → Head → Request
request_in asked c head = record { piece = c; head = head; order = order_of asked; name = asked.sound_file }

-- the objects that are lent to a performance
abbrev pub lent_in : {F K T B C : Type 0} → Scene F K T B C → Lent B K C
lent_in s = lent s.wav s.taps s.tally

-- what the lent objects tell
abbrev pub sees_lent : {F K T B C : Type 0} → Sight F K T B C → LentSight B K C
sees_lent see = lent_sight see.stands see.wav see.counted

module _ {F K T B C : Type 0} (see : Sight F K T B C) where
  -- The sound file, the meters and the count are as before.
  pub record IsUntouched (before now : Scene F K T B C) : Type 0 where
    pub wav : now.wav ≡ before.wav
    pub taps : now.taps ≡ before.taps
    pub tally : now.tally ≡ before.tally

  -- the source of the piece was read and means this
  abbrev pub HasLoaded : Asked → Scene F K T B C → Scene F K T B C → Result Composition Refusal → Type 0
  HasLoaded asked before now r = IsLoaded (see.shelf before.shelf) (see.shelf now.shelf) asked.width asked.piece r

  -- A composition was performed completely: each meter received all its frames, each of its cycles was
  -- counted by the voices that were heard in it, and the sound file has its header and samples, or with `-n`
  -- received no call.
  pub record WasPerformed (asked : Asked) (c : Composition) (before now : Scene F K T B C) : Type 0 where
    pub head : Head
    pub head_is : header_of_head head ≡ c.head
    pub whole : IsWholePerformance (sees_lent see) (request_in asked c head) (lent_in before) (lent_in now)

  -- Some number of its first cycles were performed.
  pub record WasPartlyPerformed (asked : Asked) (c : Composition) (before now : Scene F K T B C) : Type 0 where
    pub head : Head
    pub head_is : header_of_head head ≡ c.head
    pub part : IsPart (sees_lent see) (request_in asked c head) (lent_in before) (lent_in now)

  -- Some number of its first cycles were performed, and the sound file, if it was opened, has the header and
  -- exactly the samples of these cycles.
  pub record WasPaused (asked : Asked) (c : Composition) (before now : Scene F K T B C) : Type 0 where
    pub head : Head
    pub head_is : header_of_head head ≡ c.head
    pub paused : IsPaused (sees_lent see) (request_in asked c head) (lent_in before) (lent_in now)

  -- the report, with the lines of the meters as they are now
  abbrev pub report_in : Asked → Composition → Scene F K T B C → List ℕ
  report_in asked c now = report_of c asked (meter_lines see.line now.taps)

  -- `talk` has the line of a status, with the name that can't be read, or a prefix of the line if its count
  -- of faults rose.
  abbrev pub HasLine : Status → List ℕ → Scene F K T B C → Scene F K T B C → Type 0
  HasLine s name before now = Says (see.talk before.talk) (see.talk now.talk) (message_of s name)

  -- Ok: the source means a composition, which was performed completely, and `talk` has the report.
  pub record IsOk (asked : Asked) (before now : Scene F K T B C) : Type 0 where
    pub c : Composition
    pub loaded : HasLoaded asked before now (Ok c)
    pub performed : WasPerformed asked c before now
    pub report : WroteMore (see.talk before.talk) (see.talk now.talk) (report_in asked c now)

  -- TalkFault: the source means a composition, which was performed completely, but `talk` failed and has a
  -- prefix of the report.
  pub record IsTalkFault (asked : Asked) (before now : Scene F K T B C) : Type 0 where
    pub c : Composition
    pub loaded : HasLoaded asked before now (Ok c)
    pub performed : WasPerformed asked c before now
    pub report : WrotePart (see.talk before.talk) (see.talk now.talk) (report_in asked c now)

  -- SinkFault: the source means a composition, some cycles of which had been performed when the sound file
  -- failed.
  pub record IsSinkFault (asked : Asked) (before now : Scene F K T B C) : Type 0 where
    pub c : Composition
    pub loaded : HasLoaded asked before now (Ok c)
    pub performed : WasPartlyPerformed asked c before now
    pub written : asked.silent ≡ false
    pub rose : Rose (see.wav before.wav).faults (see.wav now.wav).faults
    pub line : HasLine status.SinkFault [] before now

  -- Memory ran out between two cycles of the performance of a composition that the source means.
  pub record IsCutShort (asked : Asked) (before now : Scene F K T B C) : Type 0 where
    pub c : Composition
    pub loaded : HasLoaded asked before now (Ok c)
    pub performed : WasPaused asked c before now

  -- OutOfMemory: either nothing was performed, or some cycles of a composition. No call of the shelf or the
  -- sound file failed.
  pub record IsStarved (words : List Text) (before now : Scene F K T B C) : Type 0 where
    pub calm : (see.shelf now.shelf).faults ≡ (see.shelf before.shelf).faults
    pub performed : IsUntouched before now ⊎ Reads words (λ asked. IsCutShort asked before now)
    pub line : HasLine status.OutOfMemory [] before now

  -- Usage, ShelfFault and the refusals: there is no piece, and nothing was performed.
  pub record IsUnplayed (s : Status) (words : List Text) (before now : Scene F K T B C) : Type 0 where
    pub unprepared : IsUnprepared see.shelf s words before.shelf now.shelf (see.talk before.talk) (see.talk now.talk)
    pub untouched : IsUntouched before now

  -- How a run ended, for each status.
  abbrev pub EndsBy : Status → List Text → Scene F K T B C → Scene F K T B C → Type 0
  EndsBy status.Ok words before now = Reads words (λ asked. IsOk asked before now)
  EndsBy status.TalkFault words before now = Reads words (λ asked. IsTalkFault asked before now)
  EndsBy status.SinkFault words before now = Reads words (λ asked. IsSinkFault asked before now)
  EndsBy status.OutOfMemory words before now = IsStarved words before now
  EndsBy s words before now = IsUnplayed s words before now
