-- How a note begins.
use Rattle.std.specs.Prelude.{ℕ, ℤ, ◌≡◌, ◌-◌, Bool, List, Some, None}
use Rattle.cs_signal.specs.Operands.{argument}
use Rattle.cs_ir.specs.{Instruments.Numbered, Machine.Machine}
use Rattle.cs_cells.specs.declared.footprint.Footprint.{Footprint}
use Rattle.cs_meaning.specs.{Model.no_table, Model.delay_too_long, Pieces.Piece}
use Rattle.cs_ugen.specs.Generators.{pace_of, the_generators}
use Rattle.cs_voice_meaning.specs.{VoiceWorld.VoiceState, Voices.Sheet, Voices.voice_of}
use Rattle.cs_typed.specs.TypedTree.{header_of_head}
use Rattle.cs_voice.specs.VoiceData.{VoiceData, IsOn, sounding_on}
use Rattle.cs_voice.specs.{declared.stage.Stage.Stage, Tables.tables_of, declared.begin.StartRefusal.StartRefusal}
use Rattle.cs_voice.specs.{declared.note.NewNote.NewNote, declared.note.Started.Started}
use Rattle.cs_voice.specs.declared.begin.StartRefusal.TheVariants as refusal
use Rattle.cs_voice.specs.declared.note.Started.TheVariants as started

-- the piece as a note with these p-fields finds it; `made` says which of its tables have been made
abbrev pub piece_at : Stage → List Bool → List ℤ → Piece
piece_at stage made fields = record {
  head = header_of_head stage.head.now;
  spaces = stage.spaces;
  tables = tables_of stage.tables.now made;
  generators = the_generators (pace_of (header_of_head stage.head.now));
  fields = λ k. argument fields (k - 1);
}

-- the sheet that a note of an instrument plays from
abbrev pub sheet_at : Numbered → ℕ → Footprint → Stage → List Bool → List ℤ → Sheet
sheet_at instrument age foot stage made fields = record {
  number = instrument.number;
  age = age;
  piece = piece_at stage made fields;
  areas = stage.layout.now;
  zones = stage.zones.now;
  foot = foot;
  init = instrument.init.ops;
  perf = instrument.perf.ops;
}

-- the sheet that a note which is to begin plays from, with these p-fields
abbrev pub sheet_for : NewNote → List ℤ → Sheet
sheet_for note fields = sheet_at note.instrument.now note.age note.foot.now note.stage note.made.now fields

-- the voice that a machine has become, which plays from a sheet; its note has ended in cycle `until`
pub record IsLive (s : Sheet) (until : ℕ) (m : Machine VoiceState) (v : VoiceData) : Type 0 where
  pub cause : m.world.cause ≡ None
  pub sounds : sounding_on s v ≡ voice_of s m
  pub plays : IsOn s v
  pub ends : v.until ≡ until

-- The result of starting a note, by the machine that began: a voice if and only if nothing was refused, and
-- otherwise the cause.
abbrev pub IsStarted : Sheet → ℕ → Machine VoiceState → Started → Type 0
IsStarted s until m (started.Live v) = IsLive s until m v
IsStarted s until m (started.NoTable number) = m.world.cause ≡ Some (no_table number)
IsStarted s until m (started.DelayTooLong samples) = m.world.cause ≡ Some (delay_too_long samples)

-- the result for a refusal
abbrev pub started_as : StartRefusal → Started
started_as (refusal.NoTable number) = started.NoTable number
started_as (refusal.DelayTooLong samples) = started.DelayTooLong samples
