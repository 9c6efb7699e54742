-- A code that has been done up to an op, in either way in which it can be done, and ops of it that are done
-- from there on.
use Rattle.std.specs.Prelude.{ℕ, ℤ, Bool, ◌≡◌, ◌+◌, ◌<◌, ◌≤◌, ◌++◌, List, [], Option, Some, None, drop, length, map}
use Rattle.std.specs.Prelude.{slice_get}
use Rattle.cs_cells.specs.{Access.Access, declared.footprint.Area.Area}
use Rattle.cs_ir.specs.{Asks.ask_of, Flat.Begins, Flat.moved_ops, Machine.Machine, Machine.run, Worlds.World}
use Rattle.cs_ir.specs.{declared.ask.Ask.Ask, declared.op.Code.Code, declared.op.Op.Op}
use Rattle.cs_machine.specs.{States.IsStateIn, States.machine_of, declared.state.State.State}
use Rattle.cs_machine.specs.declared.state.NoteSetting.{NoteSetting}
use Rattle.cs_voice_meaning.specs.{VoiceWorld.voice_world, Voices.Sheet}
use Rattle.cs_voice.specs.{Codes.CanGo, Codes.Finding, Cycles.CanRun, Cycles.Context, declared.tables.Finds.Finds}
use Rattle.cs_voice.specs.Passing.{CanPass, IsStateOf, Passes}
use Rattle.cs_voice.specs.declared.begin.StartRefusal.{StartRefusal}

module _ {W : Type 0} (o : World W) where
  -- Machine m goes on at index `place` of the ops or before it, and reaches the same end as machine `first`
  -- from the start.
  pub record IsUpTo (ops : List Op) (first : Machine W) (place : ℕ) (m : Machine W) : Type 0 where
    pub next : m.next ≤ place
    pub same : run o 0 ops first ≡ run o place (drop place ops) m

-- ---- in a control cycle

-- a code has been run up to an op
pub record HasComeTo (areas : List Area) (c : Context) (ops : List Op) (place : ℕ) (old : State) (before : ℕ → ℤ)
    (s : State) (cells : ℕ → ℤ) : Type 0 where
  pub next : ℕ
  pub up : IsUpTo (voice_world areas c.piece) ops (machine_of old before 0 [] None) place
      (machine_of s cells next [] None)
  pub state : IsStateIn areas c.piece c.kinds c.counts s

-- ---- as a note begins

-- the code of a sheet has been done up to an op
pub record IsPassed (s : Sheet) (first : State) (before : ℕ → ℤ) (asked : List Ask) (place : ℕ) (now : State)
    (cells : ℕ → ℤ) (given : List Ask) : Type 0 where
  pub next : ℕ
  pub more : List (List ℤ)
  pub asks : given ≡ asked ++ map ask_of more
  pub up : IsUpTo (voice_world s.areas s.piece) s.init (machine_of first before 0 [] None) place
      (machine_of now cells next more None)
  pub counted : now.regs.counts ≡ first.regs.counts
  pub state : IsStateOf s first.regs.counts now

-- ---- as either

-- What is being done: the ops of a code, and the state, the cells and the scheduled notes when it began.
pub record Outset : Type 0 where
  pub ops : List Op
  pub first : State
  pub before : ℕ → ℤ
  pub asked : List Ask

-- The code has been done up to an op: as every code of a control cycle as which it can be run, and as the
-- code of every sheet as which it can begin a note.
pub record IsDoneTo (access : Access) (at : NoteSetting) (finding : Finding) (o : Outset) (place : ℕ) (now : State)
    (cells : ℕ → ℤ) (given : List Ask) : Type 0 where
  pub cycle : (c : Context) → CanRun access at c o.ops o.first
      → HasComeTo at.layout.now c o.ops place o.first o.before now cells
  pub passes : (f : Finds) (ms : List Bool) (code : Code) (s : Sheet) → finding ≡ Some (f, ms) → f.at ≡ at
      → code.ops ≡ o.ops → CanPass access f ms code s o.first
      → IsPassed s o.first o.before o.asked place now cells given

-- the code is no code of a control cycle
abbrev pub IsOfNoCycle : Access → NoteSetting → Outset → Type 0
IsOfNoCycle access at o = (c : Context) → CanRun access at c o.ops o.first → ⊥

-- Something was refused, so nothing more of the code is done. In a control cycle nothing is refused.
pub record IsRefused (access : Access) (at : NoteSetting) (finding : Finding) (o : Outset) (now : State)
    (cells : ℕ → ℤ) (given : List Ask) (refused : StartRefusal) : Type 0 where
  pub cycle : IsOfNoCycle access at o
  pub passes : (f : Finds) (ms : List Bool) (code : Code) (s : Sheet) → finding ≡ Some (f, ms) → f.at ≡ at
      → code.ops ≡ o.ops → CanPass access f ms code s o.first
      → Passes s o.first o.before o.asked now cells given (Some refused)

-- the code has been done up to an op, or was refused
abbrev pub HasGoneOn : Access → NoteSetting → Finding → Outset → ℕ → State → (ℕ → ℤ) → List Ask
    → Option StartRefusal → Type 0
HasGoneOn access at finding o place now cells given None = IsDoneTo access at finding o place now cells given
HasGoneOn access at finding o place now cells given (Some refused) =
    IsRefused access at finding o now cells given refused

-- ---- some ops of the code, of a routine in a window

-- these ops occur in a code from an index on
abbrev pub LieFrom : List Op → ℕ → List Op → Type 0
LieFrom whole place ops = (n : ℕ) → n < length ops → slice_get whole (place + n) ≡ slice_get ops n

-- The ops can be done: they occur in a code that can be done and that has been done up to them.
pub record CanDoOps (access : Access) (at : NoteSetting) (finding : Finding) (window : Begins) (ops : List Op)
    (now : State) (cells : ℕ → ℤ) (given : List Ask) : Type 0 where
  pub outset : Outset
  pub place : ℕ
  pub lie : LieFrom outset.ops place (moved_ops window place ops)
  pub can : CanGo access at finding outset.ops outset.first
  pub done : IsDoneTo access at finding outset place now cells given

-- The ops were done: every code in which they occur, done up to them, has gone on after them.
pub record DoesOps (access : Access) (at : NoteSetting) (finding : Finding) (window : Begins) (ops : List Op)
    (old : State) (before : ℕ → ℤ) (asked : List Ask) (new : State) (after : ℕ → ℤ) (given : List Ask)
    (refused : Option StartRefusal) : Type 0 where
  pub goes : (o : Outset) (place : ℕ) → LieFrom o.ops place (moved_ops window place ops)
      → IsDoneTo access at finding o place old before asked
      → HasGoneOn access at finding o (place + length ops) new after given refused

-- The ops can't belong to a code of a control cycle.
pub record AreOfNoCycle (access : Access) (at : NoteSetting) (finding : Finding) (window : Begins) (ops : List Op)
    (old : State) (before : ℕ → ℤ) (asked : List Ask) : Type 0 where
  pub never : (o : Outset) (place : ℕ) → LieFrom o.ops place (moved_ops window place ops)
      → IsDoneTo access at finding o place old before asked → IsOfNoCycle access at o
