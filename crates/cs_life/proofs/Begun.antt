-- The result of starting a note represents the result of the note of the definitions.
use Rattle.std.proofs.Common.{◌≡◌, ◌∙◌, ◌+◌, ℕ, pos, Bool, List, length, sym, ap, subst}
use Rattle.cs_cells.specs.{Cells.Cells, Cells.cell, declared.footprint.Footprint.Footprint}
use Rattle.cs_piece_meaning.specs.{Moments.Composition, Moments.Moment, Starts.Start, Starts.begun}
use Rattle.cs_ir.specs.{Instruments.Numbered, Machine.Machine}
use Rattle.cs_life.proofs.Performing.{same_piece}
use Rattle.cs_life.specs.{Standing.Plays, Standing.flags_of, inner.Starting.IsBegun, inner.Starting.active_of}
use Rattle.cs_meaning.specs.{Core.Block, Notes.Note, Plain.Plain, Plain.delay_too_long, Plain.no_table}
use Rattle.cs_piece.specs.VoicesOfNotes.{Begins, Hold, IsVoiceOf, begun_note}
use Rattle.cs_piece.specs.Ready.{IsInstrumentOf, IsStageOf}
use Rattle.cs_voice_meaning.specs.VoiceWorld.{VoiceState}
use Rattle.cs_voice_meaning.specs.Voices.{Sheet, Sounding, initialised, voice_of}
use Rattle.cs_voice.specs.Starts.{IsLive, IsStarted, sheet_at}
use Rattle.cs_voice.specs.{declared.note.Started.Started, VoiceMeaning.IsVoice, declared.stage.Stage.Stage}
use Rattle.cs_voice.specs.VoiceData.{VoiceData, IsOn, sounding_on}
use Rattle.cs_voice.specs.declared.note.Started.TheVariants as started

module _ (c : Composition) (stage : Stage) (flags : List Bool) (now : ℕ) (s : Start) (i : Numbered) (foot : Footprint)
    (body : Block)
    (age : ℕ) (m : Moment) (cells : Cells) (is : IsStageOf c stage) (made : flags ≡ flags_of c.tables m.made)
    (long : length flags ≡ length stage.tables.now) (of : IsInstrumentOf stage i foot body)
    (hold : Hold stage.layout.now (cell cells) m.shared) where
  abbrev sheet : Sheet
  sheet = sheet_at i age foot stage flags s.fields

  abbrev machine : Machine VoiceState
  machine = initialised sheet (cell cells)

  abbrev t : Note Plain
  t = begun c m.made s body m

  same_note : begun_note sheet.piece body m.shared ≡ t
  same_note = ap (λ p. begun_note p body m.shared) (sym (same_piece c stage flags m.made s.fields is made))

  begins : Begins sheet body of.plan of.kinds (cell cells) m.shared
  begins = (of.performs age flags s.fields long).begins (cell cells) m.shared hold

  same_cause : machine.world.cause ≡ t.world.cause
  same_cause = begins.cause ∙ ap (λ (n : Note Plain). n.world.cause) same_note

  pub same_asks : machine.world.asks ≡ t.world.asks
  same_asks = begins.asks ∙ ap (λ (n : Note Plain). n.world.asks) same_note

  -- the cells hold what notes share afterwards
  pub still_hold : (new : Cells) → cell new ≡ machine.world.shared → Hold stage.layout.now (cell new) t.world.shared
  still_hold new e =
      subst (λ x. Hold stage.layout.now x t.world.shared) (sym e)
      (subst (λ (n : Note Plain). Hold stage.layout.now machine.world.shared n.world.shared) same_note begins.cells)

  module _ (v : VoiceData) (live : IsLive sheet (now + s.cycles) machine v) where
    same_sheet : sheet ≡ sheet_at i v.age foot stage flags v.fields
    same_sheet = λ j. record {
      number = i.number;
      age = live.plays.age j;
      piece = record {
        head = sheet.piece.head;
        spaces = sheet.piece.spaces;
        tables = sheet.piece.tables;
        generators = sheet.piece.generators;
        fields = λ k. live.plays.fields k j;
      };
      areas = sheet.areas;
      zones = sheet.zones;
      foot = foot;
      init = sheet.init;
      perf = sheet.perf;
    }

    plays_on : IsVoiceOf sheet of.plan of.kinds (sounding_on sheet v) t
    plays_on =
        subst (λ (x : Sounding). IsVoiceOf sheet of.plan of.kinds x t) (sym live.sounds)
        (subst (λ (n : Note Plain). IsVoiceOf sheet of.plan of.kinds (voice_of sheet machine) n) same_note
        (begins.voice (sym begins.cause ∙ live.cause)))

    plays : s.number ≡ pos i.number → IsVoice v → (a : ℕ) → Plays c stage flags v (active_of now s body t a)
    plays number valid a = record {
      i = i;
      foot = foot;
      of = of;
      number = number ∙ ap pos live.plays.number;
      until = live.ends;
      fields = live.plays.fields;
      on = subst (λ (x : Sheet). IsOn x v) same_sheet live.plays;
      valid = valid;
      note = subst (λ (x : Sheet). IsVoiceOf x of.plan of.kinds (sounding_on x v) t) same_sheet plays_on;
    }

  pub is_begun : (r : Started) → s.number ≡ pos i.number → IsStarted sheet (now + s.cycles) machine r
      → IsBegun c stage flags now s body t r
  is_begun (started.Live v) number h = (sym same_cause ∙ h.cause, plays v h number)
  is_begun (started.NoTable n) number h = (no_table n, sym same_cause ∙ h)
  is_begun (started.DelayTooLong n) number h = (delay_too_long n, sym same_cause ∙ h)
