-- A control cycle: what a code needs to be run, and what its run does to a state and cells.
use Rattle.std.specs.Prelude.{ℕ, ℤ, ◌≡◌, true, List, [], length, None}
use Rattle.std.specs.List.{AllByRecursion}
use Rattle.cs_ir.specs.{Cycles.are_of_cycle, Machine.run, Resources.Stock, Validity.fine_from, declared.op.Op.Op}
use Rattle.cs_ir.specs.declared.register.Counts.{Counts}
use Rattle.cs_cells.specs.{Access.Access, declared.footprint.Area.Area}
use Rattle.cs_meaning.specs.Pieces.{Piece}
use Rattle.cs_machine.specs.{Access.AreSpaces, Access.spaces_of, States.CanDo, States.IsSettingOf, States.IsStateIn}
use Rattle.cs_machine.specs.{States.machine_of, declared.state.State.State, declared.state.NoteSetting.NoteSetting}
use Rattle.cs_voice_meaning.specs.Placing.{HasArea, IsPlaced}
use Rattle.cs_voice_meaning.specs.{VoiceWorld.voice_world, Follows.Kinds, Follows.OpsNamed, Voices.have_channels}

-- The context in which a code runs: the piece, its zak spaces and live tables, the opcode of each unit, and
-- the numbers of registers and units.
pub record Context : Type 0 where
  pub piece : Piece
  pub stock : Stock
  pub kinds : Kinds
  pub counts : Counts

-- A code can be run in a control cycle on a bank: each of its ops can be done.
pub record CanRun (access : Access) (at : NoteSetting) (c : Context) (ops : List Op) (s : State) : Type 0 where
  pub setting : IsSettingOf at at.layout.now c.piece
  pub placed : IsPlaced at.layout.now c.stock c.piece
  pub spaces : AreSpaces at.layout.now
  pub zak : spaces_of at.layout.now ≡ at.spaces
  pub state : IsStateIn at.layout.now c.piece c.kinds c.counts s
  pub fine : fine_from c.counts (length ops) 0 ops ≡ true
  pub named : OpsNamed c.stock c.kinds (HasArea at.layout.now) ops
  pub channels : have_channels c.piece.head.nchnls ops ≡ true
  pub acts : are_of_cycle ops ≡ true
  pub can : AllByRecursion (λ (op : Op). CanDo access at.layout.now c.stock op.act) ops

-- A code was run: the state and the cells agree with the machine after it. The target of its last jump
-- doesn't matter any more.
pub record HasRun (areas : List Area) (c : Context) (ops : List Op) (old : State) (before : ℕ → ℤ) (new : State)
    (after : ℕ → ℤ) : Type 0 where
  pub next : ℕ
  pub machine : machine_of new after next [] None ≡ run (voice_world areas c.piece) 0 ops
      (machine_of old before 0 [] None)
  pub state : IsStateIn areas c.piece c.kinds c.counts new
