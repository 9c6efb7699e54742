-- The result of a performance after some of its cycles: what taps received, what was counted, and what a
-- sink has received.
use Rattle.std.specs.Prelude.{ℕ, ◌≡◌, ◌≤◌, ◌-◌, ◌*◌, ◌==◌, ◌⊎◌, ℤ, List, [], ◌++◌, length, if◌then◌else◌, Some}
use Rattle.std.specs.{Prelude.Result, Prelude.IfOk, Prelude.OnOk, Prelude.OnErr, Prelude.IsErrOf, List.count_by}
use Rattle.cs_base.specs.{Widths.bytes_of, declared.head.Head.Head, declared.width.SampleWidth.SampleWidth}
use Rattle.cs_piece_meaning.specs.{Course.closing, Heard.frames_before, Heard.frames_of, Moments.Composition}
use Rattle.cs_edge.specs.Moves.{SinkTold, Finished, Stopped, Wrote}
use Rattle.cs_edge.specs.Told.{Follows, IsFront, Rose}
use Rattle.cs_piece.specs.Setups.{composition_of}
use Rattle.cs_turns.specs.Turns.{turn_lines_of}
use Rattle.cs_wav.specs.Wav.{header_bytes, is_out_of_range, samples_of, wav_of}
use Rattle.cs_perform.specs.Counted.{AreHeardBefore, CountsOn, Receipts}
use Rattle.cs_perform.specs.{Hearing.Told, Hearing.IfWritten, declared.order.Outcome.Outcome}
use Rattle.cs_perform.specs.{declared.order.Output.TheVariants.SoundFile, declared.order.Performance.Performance}
use Rattle.cs_perform.specs.{declared.order.PlayFault.PlayFault, declared.order.TurnLines.TurnLines}
use Rattle.cs_perform.specs.declared.order.PerformanceOrder.{PerformanceOrder}
use Rattle.cs_perform.specs.declared.order.PlayFault.TheVariants as fault
use Rattle.cs_perform.specs.declared.order.TurnLines.TheVariants as lines

-- What is lent to a performance, at one moment: the sink of the sound file, the meters, and the counter of
-- cycles.
pub record Lent (T W C : Type 0) : Type 0 where
  pub wav : W
  pub taps : List T
  pub tally : C

-- the loan of these objects
abbrev pub lent : {T W C : Type 0} → W → List T → C → Lent T W C
lent wav taps tally = record { wav = wav; taps = taps; tally = tally }

-- What the lent objects tell: a tap the values that it received, a sink what was done with it, and the
-- counter the receipts that it has counted.
pub record LentSight (T W C : Type 0) : Type 1 where
  pub stands : T → List ℤ → Type 0
  pub wav : W → SinkTold
  pub counted : C → Receipts → Type 0

-- what these lent objects tell
abbrev pub lent_sight : {T W C : Type 0} → (T → List ℤ → Type 0) → (W → SinkTold) → (C → Receipts → Type 0)
    → LentSight T W C
lent_sight stands wav counted = record { stands = stands; wav = wav; counted = counted }

-- What is performed: a composition, with this head of its sound file, as the order says, into a sound file
-- with this name.
pub record Request : Type 0 where
  pub piece : Composition
  pub head : Head
  pub order : PerformanceOrder
  pub name : List ℕ

-- the request of a performance
abbrev pub request_of : Performance → Request
request_of p = record {
  piece = composition_of p.setup.now;
  head = p.setup.now.orchestra.head;
  order = p.order;
  name = p.name.now;
}

-- Taps received the first `n` cycles of a piece, and exactly these were counted, each by the voices that
-- were heard in it.
pub record Performed {T W C : Type 0} (see : LentSight T W C) (c : Composition) (n : ℕ)
    (before now : Lent T W C) : Type 0 where
  pub told : Told see.stands before.taps now.taps (frames_before c n)
  pub receipts : Receipts
  pub heard : AreHeardBefore c n receipts
  pub counted : CountsOn see.counted before.tally now.tally receipts

-- the header of the complete piece, and the samples of its first `n` cycles
abbrev pub front_after : Composition → Head → SampleWidth → ℕ → List ℕ
front_after c head width n =
    header_bytes width (length (frames_of c) * bytes_of width) head
    ++ samples_of width head.dbfs (frames_before c n)

-- The file after `n` cycles; after the last cycle it is complete, with the byte 0 after samples of odd size.
abbrev pub file_after : Composition → Head → SampleWidth → ℕ → List ℕ
file_after c head width n = if n == c.cycles then wav_of (frames_of c) head width else front_after c head width n

-- A sink that was opened with this name has at least these bytes.
abbrev pub HasAtLeast : List ℕ → List ℕ → SinkTold → SinkTold → Type 0
HasAtLeast name bytes before now =
    Follows before.held now.held (λ _ held. (held.name ≡ Some name) × IsFront bytes held.bytes)

module _ {T W C : Type 0} (see : LentSight T W C) (request : Request) (before now : Lent T W C) where
  -- A complete performance: all cycles were passed to the taps and counted, and the sink has the file of all
  -- frames, if it is written.
  pub record IsWholePerformance : Type 0 where
    pub performed : Performed see request.piece request.piece.cycles before now
    pub written : IfWritten see.wav request.order.output before.wav now.wav (λ x y.
        Finished x y request.name (wav_of (frames_of request.piece) request.head request.order.width))

  -- A performance that stopped early: some number of complete cycles were passed to the taps and counted, and
  -- the sink, if it is written, has the file after these cycles or a prefix of it, which lacks at most the
  -- last of them.
  pub record IsPart : Type 0 where
    pub cycles : ℕ
    pub within : cycles ≤ request.piece.cycles
    pub performed : Performed see request.piece cycles before now
    pub written : IfWritten see.wav request.order.output before.wav now.wav (λ x y.
        Stopped x y request.name (file_after request.piece request.head request.order.width cycles))
    pub kept : 1 ≤ cycles → IfWritten see.wav request.order.output before.wav now.wav
        (HasAtLeast request.name (front_after request.piece request.head request.order.width (cycles - 1)))

  -- A performance during which memory ran out: some number of complete cycles were passed to the taps and
  -- counted, and the sink, if it is written, has the header of the complete piece and exactly the samples of
  -- these cycles; or there were no cycles, and it received no call.
  pub record IsPaused : Type 0 where
    pub cycles : ℕ
    pub within : cycles ≤ request.piece.cycles
    pub performed : Performed see request.piece cycles before now
    pub written : IfWritten see.wav request.order.output before.wav now.wav (λ x y.
        ((cycles ≡ 0) × (now.wav ≡ before.wav))
        ⊎ Wrote x y request.name (front_after request.piece request.head request.order.width cycles))

  -- A performance by its result: complete, or stopped early. The sink can have failed only if it was to be
  -- written and its count of faults rose; memory ran out between two cycles.
  pub record Performs {A : Type 0} (result : Result A PlayFault) : Type 0 where
    pub whole : OnOk result IsWholePerformance
    pub part : OnErr result IsPart
    pub memory : IsErrOf result fault.OutOfMemory → IsPaused
    pub sink : IsErrOf result fault.Sink
        → (request.order.output ≡ SoundFile) × Rose (see.wav before.wav).faults (see.wav now.wav).faults

-- lines of turns, if the report has them
abbrev pub if_told : TurnLines → List ℕ → List ℕ
if_told lines.Told bytes = bytes
if_told lines.Untold bytes = []

-- The outcome besides the sound: the numbers of frames and cycles, of starts that started a note and starts
-- that didn't, those at the very end included, and of samples that were clipped.
pub record IsOutcomeOf (c : Composition) (width : SampleWidth) (o : Outcome) : Type 0 where
  pub frames : o.frames ≡ c.cycles * c.head.ksmps
  pub cycles : o.cycles ≡ c.cycles
  pub started : o.started ≡ (closing c).started
  pub not_started : o.not_started ≡ (closing c).not_started
  pub out_of_range : o.out_of_range ≡ count_by (is_out_of_range width c.head.dbfs) (frames_of c)

-- A performance, and its outcome besides the sound.
pub record PerformsPiece {T W C : Type 0} (see : LentSight T W C) (request : Request) (before now : Lent T W C)
    (result : Result Outcome PlayFault) : Type 0 where
  pub performed : Performs see request before now result
  pub outcome : IfOk result (IsOutcomeOf request.piece request.order.width)
  pub turns : IfOk result (λ (o : Outcome). o.turns ≡ if_told request.order.turns (turn_lines_of request.piece))
