-- The results of calls: a typed form or a fault.
use Rattle.std.specs.Prelude.{List, ◌≡◌, Option, Some, None, Result, Ok, Err}
use Rattle.cs_base.specs.{declared.fault.Or.Or, declared.fault.OrcFault.OrcFault}
use Rattle.cs_typed.specs.declared.tree.TypedStmt.{TypedStmt}
use Rattle.cs_base.specs.declared.fault.Or.TheVariants as or
use Rattle.cs_typed.specs.TypedTree as typed

-- The error is this fault. Out of memory claims nothing.
abbrev pub HasFault : Or OrcFault → Option OrcFault → Type 0
HasFault (or.Fault f) fault = fault ≡ Some f
HasFault or.OutOfMemory fault = Unit {0}

-- The result is the typed form if there is no fault, and the fault otherwise.
abbrev pub Gives : {T A : Type 0} → (T → A) → Result T (Or OrcFault) → Option OrcFault → A → Type 0
Gives see (Ok x) fault form = (fault ≡ None) × (see x ≡ form)
Gives see (Err e) fault form = HasFault e fault

-- The result is the typed form of one statement, independent of the routines, or its fault.
abbrev pub GivesOne : Result TypedStmt (Or OrcFault) → Option OrcFault → typed.Statement → Type 0
GivesOne (Ok x) fault form = (fault ≡ None) × ((rs : List typed.Block) → typed.statement rs x ≡ typed.alone form)
GivesOne (Err e) fault form = HasFault e fault

-- The call succeeds if there is no fault, and returns the fault otherwise.
abbrev pub Judged : {T : Type 0} → Result T (Or OrcFault) → Option OrcFault → Type 0
Judged (Ok x) fault = fault ≡ None
Judged (Err e) fault = HasFault e fault
