-- The core statement of a statement names no more variables and channels than the statement itself.
use Rattle.std.proofs.Common.{Bool, true, false, ℕ, ◌+◌, List, [], ◌∷◌, if◌then◌else◌}
use Rattle.std.specs.List.{All}
use Rattle.std.proofs.lemmas.List.Elements.{All-cons, All-nil, All-head, All-tail}
use Rattle.cs_base.specs.{declared.resource.Rate.Rate, declared.spaces.Spaces.Spaces}
use Rattle.cs_words.specs.Catalogue.{Row, row_of, letter_at, is_settled}
use Rattle.cs_words.specs.{declared.catalogue.Opcode.Opcode, declared.catalogue.Shape.Shape}
use Rattle.cs_meaning.specs.Core.{Stmt, Block, Arms, set, unit, zak, store, out, out_at, ask, turnoff, nothing, choose}
use Rattle.cs_meaning.specs.Core.{no_stmt, andthen, otherwise, arm, values_of, settled, moving, core_call, core_stmt}
use Rattle.cs_meaning.specs.Core.{core, core_arms}
use Rattle.cs_typed.specs.{TypedTree.SharedNames, declared.tree.Var.Var as Variable}
use Rattle.cs_typed.specs.Variables.{EachInExpression, EachInArgument, EachInStatement, EachInArms}
use Rattle.cs_name_laws.specs.Names.{IsNamed, IsNamedBlock}
use Rattle.cs_words.specs.declared.catalogue.Shape.TheVariants as shape
use Rattle.cs_typed.specs.TypedTree as typed

module _ (names : SharedNames) where
  -- all variables and channels that core statements read and assign are named
  abbrev mutual
    pub IsNamedCore : Stmt → Type 0
    IsNamedCore (set r v e) = IsNamed names v × EachInExpression (IsNamed names) e
    IsNamedCore (unit r vs opcode reach xs is) =
        All (IsNamed names) vs × All (EachInExpression (IsNamed names)) xs × All (EachInExpression (IsNamed names)) is
    IsNamedCore (zak r vs opcode reach xs) = All (IsNamed names) vs × All (EachInExpression (IsNamed names)) xs
    IsNamedCore (store r reach es is) =
        All (EachInExpression (IsNamed names)) es × All (EachInExpression (IsNamed names)) is
    IsNamedCore (out r es) = All (EachInExpression (IsNamed names)) es
    IsNamedCore (out_at r es) = All (EachInExpression (IsNamed names)) es
    IsNamedCore (ask es) = All (EachInExpression (IsNamed names)) es
    IsNamedCore (turnoff r) = Unit {0}
    IsNamedCore nothing = Unit {0}
    IsNamedCore (choose r list) = AreNamedCoreArms list

    pub IsNamedCoreBlock : Block → Type 0
    IsNamedCoreBlock no_stmt = Unit {0}
    IsNamedCoreBlock (andthen x rest) = IsNamedCore x × IsNamedCoreBlock rest

    pub AreNamedCoreArms : Arms → Type 0
    AreNamedCoreArms (otherwise b) = IsNamedCoreBlock b
    AreNamedCoreArms (arm c b rest) = EachInExpression (IsNamed names) c × IsNamedCoreBlock b × AreNamedCoreArms rest

  abbrev AreNamedValues : List typed.Expression → Type 0
  AreNamedValues es = All (EachInExpression (IsNamed names)) es

  abbrev AreNamedArguments : List typed.Argument → Type 0
  AreNamedArguments args = All (EachInArgument (IsNamed names)) args

  first : (a : typed.Argument) (rest : List typed.Argument) → AreNamedArguments (a ∷ rest)
      → EachInArgument (IsNamed names) a
  first a rest h = All-head (EachInArgument (IsNamed names)) a rest h

  others : (a : typed.Argument) (rest : List typed.Argument) → AreNamedArguments (a ∷ rest) → AreNamedArguments rest
  others a rest h = All-tail (EachInArgument (IsNamed names)) a rest h

  one_more : (e : typed.Expression) (es : List typed.Expression)
      → EachInExpression (IsNamed names) e → AreNamedValues es → AreNamedValues (e ∷ es)
  one_more e es h k = All-cons (EachInExpression (IsNamed names)) e es h k

  values_named : (args : List typed.Argument) → AreNamedArguments args → AreNamedValues (values_of args)
  values_named [] h = All-nil (EachInExpression (IsNamed names))
  values_named (typed.value e ∷ rest) h = one_more _ _ (first _ _ h) (values_named rest (others _ _ h))
  values_named (typed.text v ∷ rest) h = values_named rest (others (typed.text v) rest h)

  either_way : (b : Bool) (es fs : List typed.Expression) → AreNamedValues es
      → AreNamedValues fs → AreNamedValues (if b then es else fs)
  either_way true es fs h k = h
  either_way false es fs h k = k

  settled_named : (row : Row) (n : ℕ) (args : List typed.Argument) → AreNamedArguments args
      → AreNamedValues (settled row n args)
  settled_named row n [] h = All-nil (EachInExpression (IsNamed names))
  settled_named row n (typed.value e ∷ rest) h =
      let more = settled row (n + 1) rest in
      let after = settled_named row (n + 1) rest (others _ _ h) in
      either_way (is_settled (letter_at row n)) (e ∷ more) _ (one_more e _ (first _ _ h) after) after
  settled_named row n (typed.text v ∷ rest) h = settled_named row (n + 1) rest (others (typed.text v) rest h)

  moving_named : (row : Row) (n : ℕ) (args : List typed.Argument) → AreNamedArguments args
      → AreNamedValues (moving row n args)
  moving_named row n [] h = All-nil (EachInExpression (IsNamed names))
  moving_named row n (typed.value e ∷ rest) h =
      let more = moving row (n + 1) rest in
      let after = moving_named row (n + 1) rest (others _ _ h) in
      either_way (is_settled (letter_at row n)) _ (e ∷ more) after (one_more e _ (first _ _ h) after)
  moving_named row n (typed.text v ∷ rest) h = moving_named row (n + 1) rest (others (typed.text v) rest h)

  -- a call whose core statement is a unit
  unit_named : (row : Row) (vs : List Variable) (args : List typed.Argument)
      → All (IsNamed names) vs → AreNamedArguments args
      → All (IsNamed names) vs × AreNamedValues (moving row 0 args) × AreNamedValues (settled row 0 args)
  unit_named row vs args h k = (h, moving_named row 0 args k, settled_named row 0 args k)

  result : (v : Variable) (vs : List Variable) → All (IsNamed names) (v ∷ vs) → IsNamed names v
  result v vs h = All-head (IsNamed names) v vs h

  -- the second argument of a call
  second : (a b : typed.Argument) (rest : List typed.Argument)
      → AreNamedArguments (a ∷ b ∷ rest) → EachInArgument (IsNamed names) b
  second a b rest h = first b rest (others a (b ∷ rest) h)

  call_named : (spaces : Spaces) (r : Rate) (vs : List Variable) (opcode : Opcode) (sh : Shape)
      (args : List typed.Argument)
      → All (IsNamed names) vs → AreNamedArguments args → IsNamedCore (core_call spaces r vs opcode sh args)
  call_named spaces r (v ∷ vs) opcode shape.Init (typed.value e ∷ args) h k = (result _ _ h, first _ _ k)
  call_named spaces r vs opcode shape.Unit args h k = unit_named (row_of opcode) vs args h k
  call_named spaces r vs opcode shape.Store args h k = (values_named args k, settled_named (row_of opcode) 0 args k)
  call_named spaces r vs opcode (shape.ZakGet s) args h k = (h, moving_named (row_of opcode) 0 args k)
  call_named spaces r vs opcode (shape.ZakPut s) args h k = (h, moving_named (row_of opcode) 0 args k)
  call_named spaces r vs opcode shape.ZakMix args h k = (h, moving_named (row_of opcode) 0 args k)
  call_named spaces r vs opcode (shape.ZakClear s) args h k = (h, moving_named (row_of opcode) 0 args k)
  call_named spaces r vs opcode shape.Out args h k = values_named args k
  call_named spaces r vs opcode shape.OutAt args h k = values_named args k
  call_named spaces r (v ∷ vs) opcode shape.ChannelGet (typed.text c ∷ args) h k = (result _ _ h, first _ _ k)
  call_named spaces r vs opcode shape.ChannelPut (typed.value e ∷ typed.text c ∷ args) h k =
      (second (typed.value e) (typed.text c) args k, first (typed.value e) (typed.text c ∷ args) k)
  call_named spaces r vs opcode shape.ChannelMix (typed.value e ∷ typed.text c ∷ args) h k =
      let channel = second (typed.value e) (typed.text c) args k in
      (channel, (channel, first (typed.value e) (typed.text c ∷ args) k))
  call_named spaces r vs opcode shape.ChannelClear (typed.text c ∷ args) h k = (first (typed.text c) args k, tt)
  call_named spaces r vs opcode shape.Ask args h k = values_named args k
  call_named spaces r vs opcode sh args h k = tt

  mutual
    stmt_core : (spaces : Spaces) (x : typed.Statement) → EachInStatement (IsNamed names) x
        → IsNamedCore (core_stmt spaces x)
    stmt_core spaces (typed.set line r v e) h = h
    stmt_core spaces (typed.call line r vs opcode args) h = call_named _ _ _ _ _ _ h.0 h.1
    stmt_core spaces (typed.choose line r list) h = arms_core spaces list h

    pub block_core : (spaces : Spaces) (b : typed.Block) → IsNamedBlock names b → IsNamedCoreBlock (core spaces b)
    block_core spaces typed.no_stmt h = tt
    block_core spaces (typed.andthen x rest) h = (stmt_core spaces x h.0, block_core spaces rest h.1)

    arms_core : (spaces : Spaces) (list : typed.Arms) → EachInArms (IsNamed names) list
        → AreNamedCoreArms (core_arms spaces list)
    arms_core spaces (typed.otherwise b) h = block_core spaces b h
    arms_core spaces (typed.arm c b rest) h = (h.0, block_core spaces b h.1, arms_core spaces rest h.2)
