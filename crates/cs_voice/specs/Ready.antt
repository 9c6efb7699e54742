-- When an op may be done on a state and a bank.
use Rattle.std.specs.Prelude.{ℕ, ℤ, ◌≡◌, Bool, true, false, length}
use Rattle.cs_cells.specs.Access.{Access}
use Rattle.cs_ir.specs.{Registers.rate_at, Resources.Stock, Validity.is_fine, declared.op.Act.Act, declared.op.Op.Op}
use Rattle.cs_meaning.specs.Pieces.{Piece}
use Rattle.cs_machine.specs.{Access.AreSpaces, Access.spaces_of, declared.state.State.State}
use Rattle.cs_voice_meaning.specs.Placing.{HasArea, IsPlaced}
use Rattle.cs_voice_meaning.specs.{Follows.ActNamed, Follows.Kinds, Voices.has_channel}
use Rattle.cs_machine.specs.States.{CanDo, Does, HasRoom, IsSettingOf, IsStateIn}
use Rattle.cs_machine.specs.declared.state.NoteSetting.{NoteSetting}
use Rattle.cs_ir.specs.declared.op.Act.TheVariants as act

-- The acts that are done here: all except those that go on at another op, start a unit, look for a table or
-- schedule a note.
abbrev pub is_here : Act → Bool
is_here (act.Jump to) = false
is_here (act.Unless to) = false
is_here (act.Start opcode u) = false
is_here act.Seek = false
is_here act.Ask = false
is_here _ = true

-- An op of a valid code may be done: the setting belongs to a piece whose areas are laid out; the state
-- belongs to the code and the piece; the units have the op's opcode, and its channel exists; and everything
-- that it touches may be read or written.
pub record IsReady (access : Access) (at : NoteSetting) (piece : Piece) (kinds : Kinds) (stock : Stock) (op : Op)
    (s : State) : Type 0 where
  pub setting : IsSettingOf at at.layout.now piece
  pub placed : IsPlaced at.layout.now stock piece
  pub spaces : AreSpaces at.layout.now
  pub zak : spaces_of at.layout.now ≡ at.spaces
  pub state : IsStateIn at.layout.now piece kinds s.regs.counts s
  pub end : ℕ
  pub place : ℕ
  pub fine : is_fine s.regs.counts end place op ≡ true
  pub named : ActNamed stock kinds (HasArea at.layout.now) op.act (rate_at op.into)
  pub channel : has_channel piece.head.nchnls op.act ≡ true
  pub can : CanDo access at.layout.now stock op.act

-- there is a piece in which the op may be done
pub record CanBeDone (access : Access) (at : NoteSetting) (op : Op) (s : State) : Type 0 where
  pub piece : Piece
  pub kinds : Kinds
  pub stock : Stock
  pub ready : IsReady access at piece kinds stock op s

-- The op is done in every piece in which it may be done.
abbrev pub DoesOp : Access → NoteSetting → Op → State → (ℕ → ℤ) → State → (ℕ → ℤ) → Type 0
DoesOp access at op old before new after = (piece : Piece) (kinds : Kinds) (stock : Stock)
    → IsReady access at piece kinds stock op old
    → Does at.layout.now piece kinds old.regs.counts op.act op.into op.from old before new after

-- The acts that touch only registers and output channels.
abbrev pub is_plain : Act → Bool
is_plain (act.Load g) = false
is_plain (act.Save g) = false
is_plain (act.Unit opcode u reach) = false
is_plain (act.Zak opcode reach) = false
is_plain (act.Store reach) = false
is_plain a = is_here a

-- An op of a valid code fits a state: its registers and its channel exist.
pub record IsFit (op : Op) (s : State) : Type 0 where
  pub end : ℕ
  pub place : ℕ
  pub fine : is_fine s.regs.counts end place op ≡ true
  pub room : HasRoom s
  pub channel : has_channel (length s.outs.rows) op.act ≡ true
