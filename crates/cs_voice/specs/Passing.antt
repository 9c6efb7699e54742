-- The code that a note begins with, done to its end or up to a refusal.
use Rattle.std.specs.Prelude.{ℕ, ℤ, Bool, ◌≡◌, ◌≤◌, ◌++◌, true, List, [], length, map, Option, None}
use Rattle.std.specs.Option.{option_map}
use Rattle.cs_base.specs.Limits.{most_delay_samples}
use Rattle.cs_ir.specs.{Registers.rate_at, Asks.ask_of, Validity.is_fine, Validity.valid, declared.ask.Ask.Ask}
use Rattle.cs_ir.specs.{declared.op.Code.Code, declared.op.Op.Op, declared.register.Counts.Counts}
use Rattle.cs_ir.specs.Machine.{acts, new_machine, run}
use Rattle.cs_cells.specs.{Access.Access, Access.AllowsBelow, Areas.word_count, declared.footprint.Area.Area}
use Rattle.cs_meaning.specs.Pieces.{Piece}
use Rattle.cs_machine.specs.{Access.AreSpaces, Access.spaces_of, Registers.values, declared.state.State.State}
use Rattle.cs_voice_meaning.specs.{Placing.HasArea, VoiceWorld.fresh_voice, VoiceWorld.voice_world, Follows.ActNamed}
use Rattle.cs_voice_meaning.specs.{Follows.Kinds, Voices.Sheet, Voices.IsPlayable, Voices.has_channel}
use Rattle.cs_machine.specs.States.{machine_of, IsSettingOf, IsStateIn}
use Rattle.cs_voice.specs.{Starting.cause_of, Starts.sheet_for, Tables.CanAllBePlayed, Tables.tables_of}
use Rattle.cs_voice.specs.{declared.note.NewNote.NewNote, declared.tables.Finds.Finds}
use Rattle.cs_voice.specs.declared.begin.StartRefusal.{StartRefusal}

-- What a note that begins finds agrees with its sheet, and can be played on.
pub record IsFound (finds : Finds) (ms : List Bool) (s : Sheet) : Type 0 where
  pub setting : IsSettingOf finds.at s.areas s.piece
  pub places : AreSpaces s.areas
  pub spaces : spaces_of s.areas ≡ s.piece.spaces
  pub made : length ms ≡ length finds.tables.now
  pub tables : s.piece.tables ≡ tables_of finds.tables.now ms
  pub can_be_played : CanAllBePlayed s.areas s.piece.tables

-- a state of a sheet's code, with its delays within their limit
pub record IsStateOf (s : Sheet) (counts : Counts) (state : State) : Type 0 where
  pub in_piece : (p : IsPlayable s) → IsStateIn s.areas s.piece p.kinds counts state
  pub delays : state.delays ≤ most_delay_samples

-- An op of the code that begins a sheet's notes: it is valid at some index of a code of some length, and
-- everything that it names exists.
pub record IsOpOf (s : Sheet) (counts : Counts) (op : Op) : Type 0 where
  pub end : ℕ
  pub place : ℕ
  pub fine : is_fine counts end place op ≡ true
  pub named : (p : IsPlayable s) → ActNamed p.stock p.kinds (HasArea s.areas) op.act (rate_at op.into)
  pub channel : has_channel s.piece.head.nchnls op.act ≡ true

-- A note of a sheet can begin: what it finds agrees with the sheet, the sheet can be played, the state
-- belongs to its code, and each cell of the piece can be read and written.
pub record CanBegin (access : Access) (finds : Finds) (ms : List Bool) (s : Sheet) (now : State) : Type 0 where
  pub found : IsFound finds ms s
  pub playable : IsPlayable s
  pub state : IsStateOf s now.regs.counts now
  pub bank : AllowsBelow access (word_count s.areas)

-- the first code of the sheet can be done
pub record CanPass (access : Access) (finds : Finds) (ms : List Bool) (code : Code) (s : Sheet)
    (now : State) : Type 0 where
  pub begin : CanBegin access finds ms s now
  pub same : s.init ≡ code.ops
  pub valid : valid code ≡ true
  pub counts : now.regs.counts ≡ code.counts

-- A note can begin with these p-fields, in a new state of its first code: it finds what it plays in, it and
-- its tables can be played, its layout has the zak places of the piece, and each cell of the piece can be
-- read and written.
pub record CanInitialise (access : Access) (finds : Finds) (note : NewNote) (fields : List ℤ)
    (now : State) : Type 0 where
  pub layout : finds.at.layout.now ≡ note.stage.layout.now
  pub head : finds.at.head.now ≡ note.stage.head.now
  pub zak : finds.at.spaces ≡ note.stage.spaces
  pub given : finds.at.fields.now ≡ fields
  pub found : finds.tables.now ≡ note.stage.tables.now
  pub playable : IsPlayable (sheet_for note fields)
  pub made : length note.made.now ≡ length note.stage.tables.now
  pub tables : CanAllBePlayed note.stage.layout.now (sheet_for note fields).piece.tables
  pub places : AreSpaces note.stage.layout.now
  pub spaces : spaces_of note.stage.layout.now ≡ note.stage.spaces
  pub bank : AllowsBelow access (word_count note.stage.layout.now)
  pub fresh : (cells : ℕ → ℤ) → machine_of now cells 0 [] None ≡ new_machine (fresh_voice cells)
  pub in_piece : (areas : List Area) (piece : Piece) (kinds : Kinds) → piece.head.ksmps ≡ note.stage.head.now.ksmps
      → piece.head.nchnls ≡ note.stage.head.now.nchnls
      → IsStateIn areas piece kinds note.instrument.now.init.counts now

-- An op was done: state and cells become what the op makes of them in the world of voices, the notes that it
-- schedules are appended to `asked`, and a refusal has the same cause.
pub record IsDone (s : Sheet) (op : Op) (old : State) (before : ℕ → ℤ) (asked : List Ask) (new : State)
    (after : ℕ → ℤ) (given : List Ask) (refused : Option StartRefusal) : Type 0 where
  pub more : List (List ℤ)
  pub asks : given ≡ asked ++ map ask_of more
  pub machine : (next : ℕ) (earlier : List (List ℤ))
      → machine_of new after next (earlier ++ more) (option_map cause_of refused)
      ≡ acts (voice_world s.areas s.piece) op.act op.into (map (values old.regs) op.from)
      (machine_of old before next earlier None)
  pub state : IsStateOf s old.regs.counts new

-- The code was done, to its end or up to a refusal; only the index of the machine's next op is left open.
pub record Passes (s : Sheet) (old : State) (before : ℕ → ℤ) (asked : List Ask) (new : State)
    (after : ℕ → ℤ) (given : List Ask) (refused : Option StartRefusal) : Type 0 where
  pub next : ℕ
  pub more : List (List ℤ)
  pub asks : given ≡ asked ++ map ask_of more
  pub machine : run (voice_world s.areas s.piece) 0 s.init (machine_of old before 0 [] None)
      ≡ machine_of new after next more (option_map cause_of refused)
  pub state : IsStateOf s old.regs.counts new
