-- Routines as they are stored: their steps, with the registers and resources that their ops use.
use Rattle.std.specs.Prelude.{◌≡◌, ◌++◌, List, [], ◌∷◌, map}
use Rattle.cs_ir.specs.{Flat.flat, Flat.flat_routines, Limits.ops_limit, Registers.at_kind, Resources.NameTheSame}
use Rattle.cs_ir.specs.{Resources.Stock, Resources.ops_use, Resources.ops_write, Touched.named, declared.op.Op.Op}
use Rattle.cs_ir.specs.{declared.register.Kind.Kind, declared.routine.Routine.Routine, declared.step.Step.Step}

-- the steps of a routine
abbrev pub steps_of : Routine → List Step
steps_of r = r.steps.items

-- the ops of a routine; `routines` are the ops of the routines that it may invoke
abbrev pub ops_in : List (List Op) → Routine → List Op
ops_in routines r = flat routines (steps_of r)

-- the ops of routines by number, each of which invokes only earlier ones
abbrev pub library_in : List Routine → List (List Op)
library_in list = flat_routines (map steps_of list)

-- The invariant of a stored routine: its register limits of each kind, its used resources and its written
-- resources agree with its ops.
pub record IsRoutineOf (routines : List (List Op)) (r : Routine) : Type 0 where
  pub limits : (k : Kind) → at_kind r.limits k ≡ ops_limit k (ops_in routines r)
  pub used : (stock : Stock) → NameTheSame (named stock r.touches.used.items) (ops_use stock (ops_in routines r))
  pub written : (stock : Stock) → NameTheSame (named stock r.touches.written.items)
      (ops_write stock (ops_in routines r))

-- the invariant holds for each routine of a list, which may invoke the routines before it
abbrev pub AreRoutinesFrom : List (List Op) → List Routine → Type 0
AreRoutinesFrom before [] = Unit {0}
AreRoutinesFrom before (r ∷ rest) = IsRoutineOf before r × AreRoutinesFrom (before ++ ops_in before r ∷ []) rest

-- the invariant holds for each routine of a list
abbrev pub AreRoutines : List Routine → Type 0
AreRoutines list = AreRoutinesFrom [] list
