-- A code that is done from op to op: what it needs, in a control cycle or as a note begins.
use Rattle.std.specs.Prelude.{ℕ, ℤ, Bool, ◌≡◌, ◌⊎◌, List, Option, Some, None}
use Rattle.cs_cells.specs.Access.{Access}
use Rattle.cs_ir.specs.{declared.ask.Ask.Ask, declared.op.Code.Code, declared.op.Op.Op}
use Rattle.cs_machine.specs.{declared.state.NoteSetting.NoteSetting, declared.state.State.State}
use Rattle.cs_voice_meaning.specs.Voices.{Sheet, IsPlayable}
use Rattle.cs_voice.specs.{Cycles.CanRun, Cycles.Context, declared.tables.Finds.Finds}
use Rattle.cs_voice.specs.Passing.{CanPass, IsDone, IsFound, IsOpOf, IsStateOf}
use Rattle.cs_voice.specs.declared.begin.StartRefusal.{StartRefusal}

-- what a note that begins finds, with which of its tables have been made; None in a control cycle
abbrev pub Finding : Type 0
Finding = Option (Finds × List Bool)

-- an op of a sheet's code that starts a unit or schedules a note can be done with what is found
pub record CanStartIn (finds : Finds) (ms : List Bool) (op : Op) (s : Sheet) (now : State) : Type 0 where
  pub found : IsFound finds ms s
  pub playable : IsPlayable s
  pub fine : IsOpOf s now.regs.counts op
  pub state : IsStateOf s now.regs.counts now

-- nothing is required in a control cycle, which has no such ops
abbrev pub CanStart : Finding → Op → State → Type 0
CanStart None op now = Unit {0}
CanStart (Some f) op now = (s : Sheet) × CanStartIn f.0 f.1 op s now

-- such an op was done, for any contents of the cells
abbrev pub HasStarted : Finding → Op → State → List Ask → State → List Ask → Option StartRefusal → Type 0
HasStarted None op old asked new given refused = Unit {0}
HasStarted (Some f) op old asked new given refused = (s : Sheet) (cells : ℕ → ℤ) → CanStartIn f.0 f.1 op s old
    → IsDone s op old cells asked new cells given refused

-- a code can be done as the first code of a sheet
abbrev pub CanBeginBy : Access → NoteSetting → Finding → List Op → State → Type 0
CanBeginBy access at None ops now = ⊥
CanBeginBy access at (Some f) ops now = (code : Code) × (s : Sheet) × (f.0.at ≡ at) × (code.ops ≡ ops)
    × CanPass access f.0 f.1 code s now

-- a code can be done, in a control cycle or as a note begins
abbrev pub CanGo : Access → NoteSetting → Finding → List Op → State → Type 0
CanGo access at finding ops now = ((c : Context) × CanRun access at c ops now) ⊎ CanBeginBy access at finding ops now
