-- The facts about the rates of expressions and statements that their code needs.
use Rattle.std.proofs.Common.{◌≡◌, ◌≤◌, Bool, true, false, ◌&&◌, List, [], ◌∷◌, length, map}
use Rattle.cs_base.specs.{Rates.is_audio, Rates.within, Rates.res_rate, declared.resource.Rate.Rate}
use Rattle.cs_words.specs.Catalogue.{row_of, moving_letters, unit_takes}
use Rattle.cs_words.specs.declared.catalogue.Opcode.{Opcode}
use Rattle.cs_ir.specs.{Units.is_unit, Units.is_zak, declared.register.Reg.Reg}
use Rattle.cs_ir.specs.Validity.{suits_operator, suits_function, take_all, stores_with, may_run_at, bound_at, has_value}
use Rattle.cs_meaning.specs.Core.{Stmt, Block, Arms, set, unit, zak, store, out, out_at, ask, choose, no_stmt, andthen}
use Rattle.cs_meaning.specs.{Core.otherwise, Core.arm, Notes.reg}
use Rattle.cs_typed.specs.TypedTree.{Expression, number, var, neg, pair, pick, apply}
use Rattle.cs_typed.specs.{WellRated.node_rate, WellRated.var_rate, declared.tree.Var.Var as Variable}
use Rattle.cs_typed.specs.declared.tree.Var.TheVariants.{Local, Global}
use Rattle.cs_base.specs.declared.resource.Rate.TheVariants as rate

-- a local variable, or a shared resource that has a value
abbrev pub holds_value : Variable → Bool
holds_value (Local q n) = true
holds_value (Global g) = has_value g

-- No part changes faster than the complete expression, and a shared resource has a value that changes no
-- faster than it is read.
abbrev pub Ranked : Expression → Type 0
Ranked (var r (Local q n)) = q ≡ r
Ranked (var r (Global g)) = (has_value g && within r (res_rate g)) ≡ true
Ranked (neg r a) = (within (node_rate a) r ≡ true) × Ranked a
Ranked (pair r o a b) =
    (within (node_rate a) r ≡ true) × (within (node_rate b) r ≡ true) × (suits_operator o r ≡ true) × Ranked a
    × Ranked b
Ranked (pick r c a b) =
    (is_audio (node_rate c) ≡ false) × (within (node_rate c) r ≡ true) × (within (node_rate a) r ≡ true)
    × (within (node_rate b) r ≡ true) × Ranked c × Ranked a × Ranked b
Ranked (apply r g a) = (suits_function g r (node_rate a) ≡ true) × Ranked a
Ranked a = Unit {0}

abbrev pub AllRanked : List Expression → Type 0
AllRanked [] = Unit {0}
AllRanked (e ∷ es) = Ranked e × AllRanked es

-- all are i-rate; all are a-rate; they are pairs of a value that isn't a-rate and an a-rate value
abbrev pub AllInit : List Expression → Type 0
AllInit [] = Unit {0}
AllInit (e ∷ es) = (node_rate e ≡ rate.Init) × AllInit es

abbrev pub AllSound : List Expression → Type 0
AllSound [] = Unit {0}
AllSound (e ∷ es) = (is_audio (node_rate e) ≡ true) × AllSound es

abbrev pub Paired : List Expression → Type 0
Paired (c ∷ (e ∷ es)) = (is_audio (node_rate c) ≡ false) × (is_audio (node_rate e) ≡ true) × Paired es
Paired a = Unit {0}

-- a register of each expression's rate
abbrev pub rated : List Expression → List Reg
rated es = map (λ e. reg (node_rate e) 0) es

-- a variable is assigned a value that changes no faster than the variable
abbrev pub RankedSet : Variable → Expression → Type 0
RankedSet v e = ((holds_value v && within (node_rate e) (var_rate v)) ≡ true) × Ranked e

abbrev pub GivenTo : Rate → List Variable → Type 0
GivenTo r [] = Unit {0}
GivenTo r (v ∷ vs) = (holds_value v && within r (var_rate v)) ≡ true

-- An opcode that runs has arguments that its letters accept; a unit also has settled ones.
pub record RankedRun (r : Rate) (vs : List Variable) (opcode : Opcode) (xs : List Expression) : Type 0 where
  pub moving : take_all (moving_letters (row_of opcode)) (bound_at (row_of opcode) r) (rated xs) ≡ true
  pub runs : may_run_at (row_of opcode) r ≡ true
  pub given : GivenTo r vs
  pub parts : AllRanked xs

pub record RankedUnit (r : Rate) (vs : List Variable) (opcode : Opcode) (xs is : List Expression) : Type 0 where
  pub is_one : is_unit (row_of opcode).shape ≡ true
  pub count : unit_takes (row_of opcode) (length is) ≡ true
  pub settled : AllInit is
  pub run : RankedRun r vs opcode xs
  pub settled_parts : AllRanked is

-- The arguments of a store fit its rate, and one of them, known as the note begins, is the number of its
-- table.
pub record RankedStore (r : Rate) (es is : List Expression) : Type 0 where
  pub stores : stores_with r (rated es) ≡ true
  pub settled : AllInit is
  pub single : length is ≡ 1
  pub parts : AllRanked es
  pub settled_parts : AllRanked is

abbrev mutual
  pub RankedStmt : Stmt → Type 0
  RankedStmt (set r v e) = RankedSet v e
  RankedStmt (unit r vs opcode reach xs is) = RankedUnit r vs opcode xs is
  RankedStmt (zak r vs opcode reach xs) = (is_zak (row_of opcode).shape ≡ true) × RankedRun r vs opcode xs
  RankedStmt (store r reach es is) = RankedStore r es is
  RankedStmt (out r es) = AllSound es × AllRanked es
  RankedStmt (out_at r es) = Paired es × AllRanked es
  RankedStmt (ask es) = (3 ≤ length es) × AllInit es × AllRanked es
  RankedStmt (choose r arms) = RankedArms arms
  RankedStmt a = Unit {0}

  pub RankedBlock : Block → Type 0
  RankedBlock no_stmt = Unit {0}
  RankedBlock (andthen s b) = RankedStmt s × RankedBlock b

  pub RankedArms : Arms → Type 0
  RankedArms (otherwise b) = RankedBlock b
  RankedArms (arm c b rest) = (is_audio (node_rate c) ≡ false) × Ranked c × RankedBlock b × RankedArms rest
