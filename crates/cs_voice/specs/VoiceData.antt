-- A voice as contracts see it, in plain data; and the voice of the definitions that it represents.
use Rattle.std.specs.Prelude.{ℕ, ℤ, ◌≡◌, ◌-◌, Bool, true, List, [], map, length, slice_index_or, Option, None}
use Rattle.std.specs.List.{range_with_len}
use Rattle.cs_typed.specs.Places.{Header}
use Rattle.cs_signal.specs.Operands.{argument}
use Rattle.cs_base.specs.declared.spaces.Spaces.{Spaces}
use Rattle.cs_ir.specs.declared.op.Code.{Code}
use Rattle.cs_cells.specs.{declared.footprint.Area.Area, declared.footprint.Footprint.Footprint}
use Rattle.cs_meaning.specs.Pieces.{Piece, Table}
use Rattle.cs_machine.specs.Outputs.{ChannelFile, outs, refilled}
use Rattle.cs_machine.specs.Registers.{RegisterFile, filled, values}
use Rattle.cs_ugen.specs.Generators.{pace_of, the_generators}
use Rattle.cs_voice_meaning.specs.{VoiceWorld.Playing, Voices.Sheet, Voices.Sounding}

-- A voice: everything that one note's performance needs. `number` is its instrument's, `age` counts the notes
-- started before it, `until` is the cycle in which its note has ended; header, zak spaces, tables, areas and
-- zones belong to the piece; then come its p-fields, footprint and code, its registers and units, the number
-- of samples in its delays, its output channels, and whether it was turned off.
pub record VoiceData : Type 0 where
  pub number : ℕ
  pub age : ℕ
  pub until : ℕ
  pub head : Header
  pub spaces : Spaces
  pub tables : List Table
  pub areas : List Area
  pub zones : List Area
  pub fields : List ℤ
  pub foot : Footprint
  pub code : Code
  pub regs : RegisterFile
  pub units : List (Option Playing)
  pub delays : ℕ
  pub outs : ChannelFile
  pub ended : Bool

-- The piece in which the voice sounds, as a note finds it that starts after all tables have been made. Its
-- p-fields begin with p1.
abbrev pub piece_of : VoiceData → Piece
piece_of d = record {
  head = d.head;
  spaces = d.spaces;
  tables = d.tables;
  generators = the_generators (pace_of d.head);
  fields = λ k. argument d.fields (k - 1);
}

-- the sheet that the voice plays from; how it began doesn't matter any more
abbrev pub sheet_of : VoiceData → Sheet
sheet_of d = record {
  number = d.number;
  age = d.age;
  piece = piece_of d;
  areas = d.areas;
  zones = d.zones;
  foot = d.foot;
  init = [];
  perf = d.code.ops;
}

-- the unit with each number
abbrev pub units_in : List (Option Playing) → ℕ → Option Playing
units_in units u = slice_index_or units u None

-- The voice of the definitions that plays from a sheet.
abbrev pub sounding_on : Sheet → VoiceData → Sounding
sounding_on s d = record {
  sheet = s;
  regs = values d.regs;
  units = units_in d.units;
  delays = d.delays;
  outs = outs d.outs;
  ended = d.ended;
}

-- the voice of the definitions that plays from the voice's own sheet
abbrev pub sounding : VoiceData → Sounding
sounding d = sounding_on (sheet_of d) d

-- a table that has been made
abbrev pub made : Table → Table
made t = record t { present = true }

-- A voice plays from a sheet: the two agree. But the voice may have begun with another code, and some of the
-- sheet's tables may not have been made when it began.
pub record IsOn (s : Sheet) (d : VoiceData) : Type 0 where
  pub number : s.number ≡ d.number
  pub age : s.age ≡ d.age
  pub head : s.piece.head ≡ d.head
  pub spaces : s.piece.spaces ≡ d.spaces
  pub tables : map made s.piece.tables ≡ d.tables
  pub fields : (k : ℕ) → s.piece.fields k ≡ argument d.fields (k - 1)
  pub areas : s.areas ≡ d.areas
  pub zones : s.zones ≡ d.zones
  pub foot : s.foot ≡ d.foot
  pub perf : s.perf ≡ d.code.ops

-- the same voice with the registers, units and channels of another
abbrev pub taking : VoiceData → Sounding → VoiceData
taking d v = record d {
  regs = filled d.regs v.regs;
  units = map v.units (range_with_len 0 (length d.units));
  delays = v.delays;
  outs = refilled d.outs v.outs;
  ended = v.ended;
}
