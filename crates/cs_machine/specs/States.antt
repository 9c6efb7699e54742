-- What a note stores from cycle to cycle, as the machine that it represents; and what an act does to both.
use Rattle.std.specs.Prelude.{ℕ, ℤ, ◌≡◌, ◌+◌, ◌-◌, ◌≤◌, true, false, List, map, length, slice_index_or, Option, Some}
use Rattle.std.specs.{Prelude.None, Prelude.if◌then◌else◌, Option.is_some, Option.option_map}
use Rattle.cs_base.specs.{declared.resource.Res.Res, declared.resource.Rate.Rate}
use Rattle.cs_words.specs.{declared.catalogue.Opcode.Opcode, Catalogue.takes_table}
use Rattle.cs_typed.specs.TypedTree.{header_of_head}
use Rattle.cs_gen.specs.Points.{len_of}
use Rattle.cs_ugen.specs.{Points.is_len, Units.opcode_of}
use Rattle.cs_signal.specs.Operands.{argument}
use Rattle.cs_ir.specs.{Machine.Machine, Machine.acts, Resources.Stock, Resources.act_uses, Resources.act_writes}
use Rattle.cs_ir.specs.{declared.op.Act.Act, declared.register.Counts.Counts, declared.register.Reg.Reg}
use Rattle.cs_cells.specs.{Access.Access, declared.footprint.Area.Area}
use Rattle.cs_meaning.specs.{Model.Cause, Pieces.Piece, Pieces.Table, Pieces.find_table}
use Rattle.cs_machine.specs.{Registers.values, Outputs.outs, Access.CanTouch, Players.PlayerData, Players.has_table}
use Rattle.cs_machine.specs.{Players.playing, declared.state.State.State, declared.state.NoteSetting.NoteSetting}
use Rattle.cs_voice_meaning.specs.{Placing.area_of, Follows.Kinds, Follows.AreNamed, Room.channels_for}
use Rattle.cs_voice_meaning.specs.VoiceWorld.{Playing, VoiceState, voice_world}
use Rattle.cs_base.specs.declared.resource.Res.TheVariants as res
pub use Rattle.cs_typed.specs.TypedTree.{header_of_head as header_of}

-- unit number u as it plays
abbrev pub unit_at : List (Option PlayerData) → ℕ → Option Playing
unit_at players u = option_map playing (slice_index_or players u None)

-- The machine that a state on cells represents. The index of the next op, the notes that it has scheduled and
-- the reason why it doesn't start are added, since none of them is in the state.
abbrev pub machine_of : State → (ℕ → ℤ) → ℕ → List (List ℤ) → Option Cause → Machine VoiceState
machine_of s cells next asks cause = record {
  regs = values s.regs;
  next = next;
  world = record {
    shared = cells;
    units = unit_at s.players.items;
    delays = s.delays;
    outs = outs s.outs;
    ended = s.ended;
    asks = asks;
    cause = cause;
  };
}

-- A setting belongs to a piece on areas. Its fields begin with p1, and p-fields are counted from 1.
pub record IsSettingOf (at : NoteSetting) (areas : List Area) (piece : Piece) : Type 0 where
  pub layout : at.layout.now ≡ areas
  pub head : piece.head ≡ header_of_head at.head.now
  pub spaces : piece.spaces ≡ at.spaces
  pub fields : (k : ℕ) → piece.fields k ≡ argument at.fields.now (k - 1)

-- A unit's table is the piece's table: the points of a frozen one, or the area of one that notes may change.
pub record IsOnTable (areas : List Area) (tables : List Table) (p : PlayerData) : Type 0 where
  pub table : Table
  pub found : find_table tables p.table ≡ Some table
  pub present : table.present ≡ true
  pub points : p.points ≡ table.frozen
  pub area : p.area ≡ (if is_some table.frozen then None else area_of areas (res.Table table.number))
  pub has : has_table p ≡ true
  pub power : is_len (len_of table.size) ≡ true
  pub small : (area : Area) → p.area ≡ Some area → area.first + area.length ≤ 65536

-- A unit of an opcode: its state belongs to that opcode, and its table is one of the piece, or none if the
-- opcode takes none.
pub record IsPlayerOf (areas : List Area) (piece : Piece) (kind : Opcode × Rate) (p : PlayerData) : Type 0 where
  pub state : opcode_of p.state ≡ kind.0
  pub table : takes_table kind.0 ≡ true → IsOnTable areas piece.tables p
  pub none : takes_table kind.0 ≡ false → (p.points ≡ None) × (p.area ≡ None)

-- A state has the registers, units and channels that its code and the piece need, with the right number of
-- frames; and its units have the opcodes that the code runs.
pub record IsStateIn (areas : List Area) (piece : Piece) (kinds : Kinds) (counts : Counts) (s : State) : Type 0 where
  pub registers : s.regs.counts ≡ counts
  pub frames : s.regs.ksmps ≡ piece.head.ksmps
  pub channels : length s.outs.rows ≡ channels_for counts piece.head.nchnls
  pub channel_frames : s.outs.ksmps ≡ piece.head.ksmps
  pub units : length s.players.items ≡ counts.units
  pub row : length s.row.items ≡ piece.head.ksmps
  pub players : (u : ℕ) (p : PlayerData) → slice_index_or s.players.items u None ≡ Some p
      → IsPlayerOf areas piece (kinds u) p

-- What calls need to know about a state without its piece: the buffer for a row and the channels have as many
-- frames as the registers.
pub record HasRoom (s : State) : Type 0 where
  pub row : length s.row.items ≡ s.regs.ksmps
  pub channels : s.outs.ksmps ≡ s.regs.ksmps

-- A state and cells become what an act makes of them in the world of voices, and the state still belongs to
-- its code and piece.
pub record Does (areas : List Area) (piece : Piece) (kinds : Kinds) (counts : Counts) (act : Act) (into : Reg)
    (from : List Reg)
    (old : State) (before : ℕ → ℤ) (new : State) (after : ℕ → ℤ) : Type 0 where
  pub machine : (next : ℕ) (asks : List (List ℤ)) (cause : Option Cause) → machine_of new after next asks cause
      ≡ acts (voice_world areas piece) act into (map (values old.regs) from) (machine_of old before next asks cause)
  pub state : IsStateIn areas piece kinds counts new

-- An act that touches no cell does so in every piece to which its state belongs.
abbrev pub DoesAnywhere : Act → Reg → List Reg → State → State → Type 0
DoesAnywhere act into from old new =
    (areas : List Area) (piece : Piece) (kinds : Kinds) (counts : Counts) (cells : ℕ → ℤ)
    → IsStateIn areas piece kinds counts old → Does areas piece kinds counts act into from old cells new cells

-- An act that touches no cell does so in the piece of a setting.
abbrev pub DoesAt : NoteSetting → Act → Reg → List Reg → State → State → Type 0
DoesAt at act into from old new = (areas : List Area) (piece : Piece) (kinds : Kinds) (counts : Counts) (cells : ℕ → ℤ)
    → IsSettingOf at areas piece → IsStateIn areas piece kinds counts old
    → Does areas piece kinds counts act into from old cells new cells

-- the resource has an area, and each of its cells is allowed
abbrev pub MayTouch : (ℕ → Type 0) → ℕ → List Area → Res → Type 0
MayTouch allowed count areas g = (area : Area) × (area_of areas g ≡ Some area) × CanTouch allowed count area

-- the cells of the resource may be read
abbrev pub MayGet : Access → List Area → Res → Type 0
MayGet access areas g = MayTouch access.can_get access.count areas g

-- the cells of the resource may be set
abbrev pub MaySet : Access → List Area → Res → Type 0
MaySet access areas g = MayTouch access.can_set access.count areas g

-- An act may be done on a bank: each resource that it may read has cells that may be read, and each that it
-- may write has cells that may be set.
pub record CanDo (access : Access) (areas : List Area) (stock : Stock) (act : Act) : Type 0 where
  pub uses : AreNamed (MayGet access areas) (act_uses stock act)
  pub writes : AreNamed (MaySet access areas) (act_writes stock act)
