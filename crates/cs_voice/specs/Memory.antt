-- A voice as it lies in memory.
use Rattle.std.specs.{Prelude.ℕ, Prelude.ℤ, Prelude.◌≡◌, Prelude.true, Prelude.List, Prelude.map, Option.option_map}
use Rattle.cs_ir.specs.{Validity.valid, declared.op.Code.Code}
use Rattle.cs_cells.specs.declared.footprint.Footprint.{Footprint}
use Rattle.cs_meaning.specs.Pieces.{Table}
use Rattle.cs_machine.specs.Access.{AreSpaces, spaces_of}
use Rattle.cs_machine.specs.{Players.playing, States.IsStateIn, declared.state.State.State}
use Rattle.cs_voice_meaning.specs.Voices.{Sheet, IsPlayable}
use Rattle.cs_typed.specs.TypedTree.{header_of_head}
use Rattle.cs_voice.specs.{declared.body.VoiceBody.VoiceBody, declared.stage.Stage.Stage, VoiceMeaning.IsVoice}
use Rattle.cs_voice.specs.declared.stage.PieceTable.{PieceTable}
use Rattle.cs_voice.specs.VoiceData.{VoiceData, IsOn, piece_of}

-- a table as the definitions see it, once it has been made
abbrev pub table_of : PieceTable → Table
table_of t = record { number = t.number; size = t.size; frozen = t.points; present = true }

-- the voice that consists of these parts
abbrev pub voice_in : ℕ → ℕ → ℕ → Stage → Footprint → Code → List ℤ → State → VoiceData
voice_in number age until stage foot code fields s = record {
  number = number;
  age = age;
  until = until;
  head = header_of_head stage.head.now;
  spaces = stage.spaces;
  tables = map table_of stage.tables.now;
  areas = stage.layout.now;
  zones = stage.zones.now;
  fields = fields;
  foot = foot;
  code = code;
  regs = s.regs;
  units = map (option_map playing) s.players.items;
  delays = s.delays;
  outs = s.outs;
  ended = s.ended;
}

-- Parts form a voice that plays from a sheet: the sheet can be played, the layout has the zak places of the
-- piece, the code is valid, and the state belongs to the piece.
pub record MakeVoice (number age until : ℕ) (stage : Stage) (foot : Footprint) (code : Code) (fields : List ℤ)
    (s : State) : Type 0 where
  pub sheet : Sheet
  pub parts : IsOn sheet (voice_in number age until stage foot code fields s)
  pub playable : IsPlayable sheet
  pub spaces : AreSpaces stage.layout.now
  pub zak : spaces_of stage.layout.now ≡ stage.spaces
  pub fine : valid code ≡ true
  pub state : IsStateIn sheet.areas sheet.piece playable.kinds code.counts s

-- The invariant of the parts of a voice.
pub record IsKept (number age until : ℕ) (stage : Stage) (foot : Footprint) (code : Code) (fields : List ℤ)
    (s : State) : Type
    0 where
  pub voice : IsVoice (voice_in number age until stage foot code fields s)
  pub spaces : AreSpaces stage.layout.now
  pub zak : spaces_of stage.layout.now ≡ stage.spaces
  pub state : IsStateIn stage.layout.now (piece_of (voice_in number age until stage foot code fields s))
      voice.playable.kinds
      code.counts s

-- the voice that a body represents
abbrev pub data_of : VoiceBody → VoiceData
data_of b = voice_in b.number b.age b.until b.stage b.foot.now b.code.now b.fields.items b.state

-- the invariant of a voice in memory
abbrev pub IsBody : VoiceBody → Type 0
IsBody b = IsKept b.number b.age b.until b.stage b.foot.now b.code.now b.fields.items b.state
