-- Which moment of a performance its state represents.
use Rattle.std.specs.Prelude.{ℕ, pos, ◌≡◌, ◌≤◌, ◌-◌, ◌^◌, ◌==◌, Bool, List, length, map, min}
use Rattle.std.specs.{List.AllZip, List.list_any, List.Sorted.IsNonDecreasingBy}
use Rattle.cs_base.specs.Limits.{most_notes}
use Rattle.cs_cells.specs.{Areas.word_count, Cells.Cells, Cells.cell, declared.footprint.Footprint.Footprint}
use Rattle.cs_piece_meaning.specs.Moments.{Composition, Active, Moment, field_of}
use Rattle.cs_ir.specs.Instruments.{Numbered}
use Rattle.cs_meaning.specs.Plain.{Table}
use Rattle.cs_piece.specs.{VoicesOfNotes.Hold, VoicesOfNotes.IsVoiceOf, Ready.IsInstrumentOf, Ready.IsStageOf}
use Rattle.cs_sched.specs.Waiting.{waiting}
use Rattle.cs_signal.specs.Operands.{argument}
use Rattle.cs_voice.specs.{Starts.sheet_at, VoiceMeaning.IsVoice, declared.stage.Stage.Stage}
use Rattle.cs_voice.specs.VoiceData.{VoiceData, IsOn, sounding_on}
use Rattle.cs_life.specs.declared.life.Life.{Life}

-- for each table, whether a table with its number has been made
abbrev pub flags_of : List Table → List ℕ → List Bool
flags_of tables made = map (λ (t : Table). list_any (λ n. n == t.number) made) tables

-- A voice represents a note that plays: the same instrument and p-fields, the same cycle in which it has
-- ended, an instrument with the note's statements, and the same state.
pub record Plays (c : Composition) (stage : Stage) (flags : List Bool) (v : VoiceData) (a : Active) : Type 0 where
  pub i : Numbered
  pub foot : Footprint
  pub of : IsInstrumentOf stage i foot a.body
  pub number : a.number ≡ pos v.number
  pub until : v.until ≡ a.ends
  pub fields : (k : ℕ) → field_of a.fields k ≡ argument v.fields (k - 1)
  pub on : IsOn (sheet_at i v.age foot stage flags v.fields) v
  pub valid : IsVoice v
  pub note : IsVoiceOf (sheet_at i v.age foot stage flags v.fields) of.plan of.kinds
      (sounding_on (sheet_at i v.age foot stage flags v.fields) v) a.note

-- a count as it is stored in 64 bits: it stays at their highest number
abbrev pub kept_count : ℕ → ℕ
kept_count n = min n (2 ^ 64 - 1)

-- Cells and voices represent a moment: cells hold what notes share, and each voice represents the note at its
-- index, in performing order; there are no more notes than may play.
pub record VoicesStand (c : Composition) (stage : Stage) (flags : List Bool) (voices : List VoiceData) (cells : Cells)
    (m : Moment) : Type 0 where
  pub stage_is : IsStageOf c stage
  pub made : flags ≡ flags_of c.tables m.made
  pub hold : Hold stage.layout.now (cell cells) m.shared
  pub long : length cells ≡ word_count stage.layout.now
  pub play : AllZip (Plays c stage flags) voices m.active
  pub in_order : IsNonDecreasingBy (λ (v : VoiceData). v.number) voices
  pub few : length voices ≤ most_notes

-- The complete state represents a moment: the voices and cells, with the setup's layout; the notes that wait;
-- and the counts of starts.
pub record StandsFor (c : Composition) (life : Life) (voices : List VoiceData) (cells : Cells) (m : Moment) : Type
    0 where
  pub stand : VoicesStand c life.stage life.made.items voices cells m
  pub layout : life.stage.layout.now ≡ life.setup.now.layout
  pub zones : life.stage.zones.now ≡ life.setup.now.zones
  pub due : (cycle : ℕ) → (waiting life.pending).due cycle ≡ m.waiting.due cycle
  pub kept : (waiting life.pending).kept ≡ m.waiting.kept
  pub started : life.started ≡ kept_count m.started
  pub not_started : life.not_started ≡ kept_count m.not_started
