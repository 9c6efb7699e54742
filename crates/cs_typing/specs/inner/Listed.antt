-- The definitions that have been typed so far, each with its routine in a list.
use Rattle.std.specs.Prelude.{ℕ, true, false, List, ◌++◌, ◌≡◌, ◌<◌, length, map, take, slice_get, Option, Some, None}
use Rattle.std.specs.{Prelude.Result, Prelude.Ok, Prelude.Err, Global.Vec, List.All, Option.option_or}
use Rattle.cs_base.specs.{declared.fault.Or.Or, declared.fault.OrcFault.OrcFault}
use Rattle.cs_words.specs.NameSets.{has}
use Rattle.cs_grammar.specs.{WellFormed.WellFormedDefinition, declared.tree.Arm.Arm, declared.tree.Arm.out-Arm}
use Rattle.cs_grammar.specs.Tree.{Arms, Definition, block, expression}
use Rattle.cs_typed.specs.{declared.setting.Setting.Setting, Places.inside, declared.tree.TypedStmt.TypedStmt}
use Rattle.cs_typed.specs.declared.tree.TypedArm.{TypedArm, out-TypedArm}
use Rattle.cs_typing.specs.{Expressions.expression_by, Settings.at, Statements.choice_rate}
use Rattle.cs_typing.specs.{inner.Answers.HasFault, Known.Shared, declared.routines.RoutineTable.RoutineTable}
use Rattle.cs_typing.specs.Statements.{condition_fault_by}
use Rattle.cs_typing.specs.{declared.routines.Site.Site, declared.routines.SoFar.SoFar}
use Rattle.cs_udo.specs.Library.{definitions_of}
use Rattle.cs_typing.specs.declared.routines.TypedDefinition.{TypedDefinition}
use Rattle.cs_typing.specs.inner.Routines.{Routine, Routines, no_routines, with_routines, routine_of, number_in}
use Rattle.cs_typing.specs.inner.Routines.{KnownInBody, arms_fault_in, block_fault_in}
use Rattle.cs_typing.specs.inner.Routines.{known_after_block, knows_in, typed_arms_in, typed_block_in, variable_in}
use Rattle.cs_typed.specs.TypedTree as typed

-- the routines of the first definitions
abbrev pub routines_of : List Definition → ℕ → Routines
routines_of ds visible = with_routines no_routines (take visible ds)

-- the routines that may be called in this context
abbrev pub routines_at : Site → Routines
routines_at s = routines_of (definitions_of s.library.now) s.visible

-- the typed bodies of the routines in a table, by index
abbrev pub blocks_in : RoutineTable → List typed.Block
blocks_in t = typed.routines t.list.items

-- A definition has been typed: with these shared names, its routine breaks no rule and uses no new channel,
-- and its body is the one at its index in the list.
pub record IsTyped (channels : ℕ) (g : Shared) (r : Routine) (it : TypedDefinition) (blocks : List typed.Block) : Type 0
  where
    pub fault : r.fault (inside channels) g ≡ None
    pub shared : r.shared g ≡ g
    pub within : it.routine < length blocks
    pub block : r.block g ≡ typed.routine_at blocks it.routine
    pub locals : it.locals ≡ r.last.counts
    pub slots : it.slots.items ≡ map (number_in r.last) r.results

-- Each definition that has a routine has been typed, each is well formed, and no channel is of both kinds.
pub record AreTyped (channels : ℕ) (ds : List Definition) (g : Shared) (t : RoutineTable) : Type 0 where
  pub fit : All WellFormedDefinition ds
  pub marks : length t.by_definition.items ≡ length ds
  pub each : (k : ℕ) (it : TypedDefinition) (d : Definition) → slice_get t.by_definition.items k ≡ Some (Some it)
      → slice_get ds k ≡ Some d → IsTyped channels g (routine_of (routines_of ds k) d) it (blocks_in t)
  pub apart : (x : List ℕ) → has g.control x ≡ true → has g.sound x ≡ false

-- all definitions with a routine have been typed for the names that are shared at this point
abbrev pub IsSound : Site → SoFar → Type 0
IsSound s f = AreTyped s.setting.channels (definitions_of s.library.now) f.names.shared f.routines

-- a table with more routines
abbrev pub IsLonger : RoutineTable → RoutineTable → Type 0
IsLonger old new = (more : List typed.Block) × (blocks_in new ≡ blocks_in old ++ more)

-- after statements: everything typed remains valid, and the routines keep their indices
pub record IsAhead (s : Site) (old new : SoFar) : Type 0 where
  pub sound : IsSound s new
  pub longer : IsLonger old.routines new.routines

-- The statements with this typed form are added, independent of the routines.
abbrev pub Adds : List TypedStmt → List TypedStmt → typed.Block → Type 0
Adds old new b = (rs : List typed.Block) → typed.block rs new ≡ typed.then_block (typed.block rs old) b

-- the statements with this typed form are added, whichever routines follow later
abbrev pub AddsOver : RoutineTable → List TypedStmt → List TypedStmt → typed.Block → Type 0
AddsOver t old new b =
    (more : List typed.Block) → typed.block (blocks_in t ++ more) new
    ≡ typed.then_block (typed.block (blocks_in t ++ more) old) b

-- ---- the results of calls

-- statements, whichever routines follow later
abbrev pub GivesBlock : RoutineTable → Result (Vec TypedStmt) (Or OrcFault) → Option OrcFault → typed.Block → Type 0
GivesBlock t (Ok v) fault form =
    (fault ≡ None) × ((more : List typed.Block) → typed.block (blocks_in t ++ more) v.items ≡ form)
GivesBlock t (Err e) fault form = HasFault e fault

-- an `if`, whichever routines follow later
abbrev pub GivesChoice : RoutineTable → Result TypedStmt (Or OrcFault) → Setting → Routines → KnownInBody → ℕ → Arms
    → Type 0
GivesChoice t (Ok x) s rs k line list =
    (arms_fault_in s rs k line list ≡ None)
    × ((more : List typed.Block) → typed.statement (blocks_in t ++ more) x
    ≡ typed.alone (typed.choose line (choice_rate list) (typed_arms_in rs k list)))
GivesChoice t (Err e) s rs k line list = HasFault e (arms_fault_in s rs k line list)

-- the first rule that an arm breaks
abbrev pub arm_fault_in : Setting → Routines → KnownInBody → ℕ → Arm → Option OrcFault
arm_fault_in s rs k line a =
    option_or (at line (condition_fault_by s (knows_in k) (expression (out-Arm a).cond)))
    (block_fault_in s rs k (block (out-Arm a).body.items))

-- an arm; `n` is the names known after it
abbrev pub GivesArm : RoutineTable → Setting → Routines → KnownInBody → ℕ → Arm → Result TypedArm (Or OrcFault)
    → KnownInBody → Type 0
GivesArm t s rs k line a (Ok x) n =
    (at line (condition_fault_by s (knows_in k) (expression (out-Arm a).cond)) ≡ None)
    × (block_fault_in s rs k (block (out-Arm a).body.items) ≡ None)
    × (typed.expression (out-TypedArm x).cond ≡ expression_by (variable_in k) (expression (out-Arm a).cond))
    × ((more : List typed.Block) → typed.block (blocks_in t ++ more) (out-TypedArm x).body.items
    ≡ typed_block_in rs k (block (out-Arm a).body.items))
    × (n ≡ known_after_block rs k (block (out-Arm a).body.items))
GivesArm t s rs k line a (Err e) n = HasFault e (arm_fault_in s rs k line a)

-- the routine of the definition at index `place`
abbrev pub routine_here : Site → ℕ → Definition → Routine
routine_here s place d = routine_of (routines_of (definitions_of s.library.now) place) d

-- A definition has a routine in the table, whose body is right for these shared names.
pub record IsListed (t : RoutineTable) (place : ℕ) (r : Routine) (g : Shared) : Type 0 where
  pub it : TypedDefinition
  pub at : slice_get t.by_definition.items place ≡ Some (Some it)
  pub block : r.block g ≡ typed.routine_at (blocks_in t) it.routine
  pub within : it.routine < length (blocks_in t)
  pub locals : it.locals ≡ r.last.counts
  pub slots : it.slots.items ≡ map (number_in r.last) r.results
