-- A well-rated tree satisfies the conditions of the simulation.
use Rattle.std.proofs.Common.{◌≡◌, Bool, true, false, List, [], ◌∷◌, length, if◌then◌else◌, refl, sym, subst, arith}
use Rattle.std.proofs.Common.{ne_eqb, Option, Some, None}
use Rattle.std.proofs.lemmas.Bool.{and_parts}
use Rattle.cs_base.specs.{Rates.is_init, declared.resource.Rate.Rate, declared.spaces.Spaces.Spaces}
use Rattle.cs_words.specs.Catalogue.{row_of, result_count}
use Rattle.cs_words.specs.{declared.catalogue.Opcode.Opcode, declared.catalogue.Shape.Shape}
use Rattle.cs_meaning.specs.Core.{Stmt, core, core_stmt, core_arms, core_call}
use Rattle.cs_typed.specs.{TypedTree.Argument, declared.setting.Setting.Setting, declared.tree.Var.Var as Variable}
use Rattle.cs_typed.specs.WellRated.{node_rate, all_still, IsRatedStatement, IsRatedBlock, IsRatedArms}
use Rattle.cs_code.specs.inner.Emitted.{Assigned, assigned, effect}
use Rattle.cs_code.proofs.Calls.{by_assigned, either_of}
use Rattle.cs_code.proofs.Inside.{Takes, AllStill, SuitsStmt, SuitsBlock, SuitsArms}
use Rattle.cs_base.specs.declared.resource.Rate.TheVariants as rate
use Rattle.cs_words.specs.declared.catalogue.Shape.TheVariants as shape
use Rattle.cs_typed.specs.TypedTree as typed

-- ---- conditions that are known as the note begins

pub init_is : (r : Rate) → is_init r ≡ true → r ≡ rate.Init
init_is rate.Init h = refl
init_is a h = absurd (cc)

still_if : (b : Bool) (r : Rate) → r ≡ (if b then rate.Init else rate.Control) → r ≡ rate.Init → b ≡ true
still_if true r h k = refl
still_if false r h k = absurd (cc)

pub stills : (spaces : Spaces) (list : typed.Arms) → all_still list ≡ true → AllStill (core_arms spaces list)
stills spaces (typed.otherwise b) h = tt
stills spaces (typed.arm c b rest) h =
    let both = and_parts (is_init (node_rate c)) (all_still rest) h in
    (init_is (node_rate c) both.0, stills spaces rest both.1)

-- ---- results

-- a result variable exists only if the opcode has a result
takes_given : (opcode : Opcode) (vs : List Variable) → length vs ≡ result_count (row_of opcode) → Takes opcode vs
takes_given opcode [] k = tt
takes_given opcode (v ∷ vs) k = rw (ne_eqb (result_count (row_of opcode)) 0 (λ e. absurd (omega arith))) refl

effect_suits : (o : Spaces) (r : Rate) (vs : List Variable) (opcode : Opcode) (sh : Shape) (args : List Argument)
    → Takes opcode vs → SuitsStmt (effect o r vs opcode sh args)
effect_suits o r vs opcode shape.Unit args t = t
effect_suits o r vs opcode (shape.ZakGet s) args t = t
effect_suits o r vs opcode (shape.ZakPut s) args t = t
effect_suits o r vs opcode shape.ZakMix args t = t
effect_suits o r vs opcode (shape.ZakClear s) args t = t
effect_suits o r vs opcode _ args t = tt

either_suits : (a : Option Assigned) (s : Stmt) → SuitsStmt s → SuitsStmt (either_of a s)
either_suits (Some a) s h = tt
either_suits None s h = h

call_suits : (o : Spaces) (r : Rate) (vs : List Variable) (opcode : Opcode) (sh : Shape) (args : List Argument)
    → Takes opcode vs → SuitsStmt (core_call o r vs opcode sh args)
call_suits o r vs opcode sh args t =
    subst SuitsStmt (sym (by_assigned o r vs opcode sh args))
    (either_suits (assigned sh r vs args) (effect o r vs opcode sh args) (effect_suits o r vs opcode sh args t))

-- ---- statements

mutual
  stmt_suits : (spaces : Spaces) (s : Setting) (x : typed.Statement) → IsRatedStatement s x
      → SuitsStmt (core_stmt spaces x)
  stmt_suits spaces s (typed.set line r v e) rated = tt
  stmt_suits spaces s (typed.call line r vs opcode args) rated =
      call_suits spaces r vs opcode (row_of opcode).shape args (takes_given opcode vs rated.results)
  stmt_suits spaces s (typed.choose line r list) rated =
      (λ k. stills spaces list (still_if (all_still list) r rated.0 k), arms_suit spaces s list rated.1)

  pub block_suits : (spaces : Spaces) (s : Setting) (b : typed.Block) → IsRatedBlock s b → SuitsBlock (core spaces b)
  block_suits spaces s typed.no_stmt rated = tt
  block_suits spaces s (typed.andthen x rest) rated =
      (stmt_suits spaces s x rated.0, block_suits spaces s rest rated.1)

  arms_suit : (spaces : Spaces) (s : Setting) (list : typed.Arms) → IsRatedArms s list
      → SuitsArms (core_arms spaces list)
  arms_suit spaces s (typed.otherwise b) rated = block_suits spaces s b rated
  arms_suit spaces s (typed.arm c b rest) rated =
      (block_suits spaces s b rated.3, arms_suit spaces s rest rated.4)
