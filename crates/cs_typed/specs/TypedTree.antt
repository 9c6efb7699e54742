-- The typed tree of an orchestra as the definitions see it, and the mirror of the code's tree.
use Rattle.std.specs.Prelude.{ℕ, ℤ, ◌+◌, List, [], ◌∷◌, ◌++◌, map, slice_index_or}
use Rattle.std.specs.Global.{Vec}
use Rattle.cs_base.specs.{Heads.Header, Rates.at_rate, declared.resource.Rate.Rate, declared.spaces.Spaces.Spaces}
use Rattle.cs_base.specs.declared.per_rate.PerRate.{PerRate}
use Rattle.cs_words.specs.declared.catalogue.Opcode.{Opcode}
use Rattle.cs_words.specs.{declared.sign.BinOp.BinOp, declared.word.Func.Func, declared.word.HeadName.HeadName}
use Rattle.cs_typed.specs.{declared.tree.Globals.Globals, declared.tree.TypedArg.TypedArg}
use Rattle.cs_typed.specs.{declared.tree.TypedExpr.TypedExpr, declared.tree.TypedInstr.TypedInstr}
use Rattle.cs_typed.specs.{declared.tree.TypedOrc.TypedOrc, declared.tree.TypedPart.TypedPart}
use Rattle.cs_typed.specs.{declared.tree.TypedStmt.TypedStmt, declared.tree.Var.Var as Variable}
use Rattle.cs_typed.specs.declared.tree.TypedArg.TheVariants.{Value, Text}
use Rattle.cs_typed.specs.declared.tree.TypedArm.{TypedArm, TypedArm', out-TypedArm}
use Rattle.cs_typed.specs.declared.tree.TypedPart.TheVariants.{Number, Var, Field, Head as HeadName', Neg', Pair'}
use Rattle.cs_typed.specs.declared.tree.TypedPart.TheVariants.{Pick', Call'}
use Rattle.cs_typed.specs.declared.tree.TypedWhat.{TypedWhat, Row_of-TypedArm, end_of-TypedArm, more_of-TypedArm}
use Rattle.cs_typed.specs.declared.tree.TypedWhat.{Row_of-TypedStmt, end_of-TypedStmt, more_of-TypedStmt}
use Rattle.cs_typed.specs.declared.tree.TypedWhat.TheVariants.{Set, Call, Choose', Invoke}
use Rattle.cs_typed.specs.declared.tree.Var.TheVariants.{Local, Global}
pub use Rattle.cs_base.specs.Heads.{header_of_head}

-- The typed tree as the definitions see it, without the addresses of boxes and the capacities of vectors. An
-- expression has its rate first.
pub data Expression : Type 0 where
  number : Rate → ℤ → Expression
  var : Rate → Variable → Expression
  field : Rate → ℕ → Expression
  head : Rate → HeadName → Expression
  neg : Rate → Expression → Expression
  pair : Rate → BinOp → Expression → Expression → Expression
  pick : Rate → Expression → Expression → Expression → Expression
  apply : Rate → Func → Expression → Expression

-- an argument: a value, or the channel that a text names
pub data Argument : Type 0 where
  value : Expression → Argument
  text : Variable → Argument

-- A statement, with its line and its rate. An `if` is a chain of arms, which ends with the statements after
-- `else`.
mutual
  pub data Statement : Type 0 where
    set : ℕ → Rate → Variable → Expression → Statement
    call : ℕ → Rate → List Variable → Opcode → List Argument → Statement
    choose : ℕ → Rate → Arms → Statement

  pub data Block : Type 0 where
    no_stmt : Block
    andthen : Statement → Block → Block

  pub data Arms : Type 0 where
    otherwise : Block → Arms
    arm : Expression → Block → Arms → Arms

-- an instrument, with the line of its `instr`
pub record Instrument : Type 0 where
  pub line : ℕ
  pub numbers : List ℕ
  pub body : Block

-- the names of the shared variables and channels, each list in the order of first appearance
pub record SharedNames : Type 0 where
  pub variables : PerRate (List (List ℕ))
  pub control : List (List ℕ)
  pub sound : List (List ℕ)

-- a typed orchestra, with the numbers of places of the two zak spaces
pub record Orchestra : Type 0 where
  pub head : Header
  pub spaces : Spaces
  pub zero : Block
  pub instrs : List Instrument
  pub globals : SharedNames

-- the statements of two blocks, one after the other
abbrev pub then_block : Block → Block → Block
then_block no_stmt b = b
then_block (andthen s rest) b = andthen s (then_block rest b)

-- one statement
abbrev pub alone : Statement → Block
alone s = andthen s no_stmt

-- STATEMENTS MOVED: the numbers of local variables are increased by a base number, which each rate has
-- separately.

-- no variables
abbrev pub no_counts : PerRate ℕ
no_counts = record { init = 0; control = 0; audio = 0 }

-- the sums of two counts, for each rate
abbrev pub counts_with : PerRate ℕ → PerRate ℕ → PerRate ℕ
counts_with a b =
    record { init = a.init + b.init; control = a.control + b.control; audio = a.audio + b.audio }

-- a variable moved by the base numbers; a shared one is unchanged
abbrev pub moved_variable : PerRate ℕ → Variable → Variable
moved_variable base (Local r n) = Local r (at_rate base r + n)
moved_variable base (Global g) = Global g

-- an expression moved by the base numbers
abbrev pub moved_expression : PerRate ℕ → Expression → Expression
moved_expression base (number r n) = number r n
moved_expression base (var r v) = var r (moved_variable base v)
moved_expression base (field r k) = field r k
moved_expression base (head r h) = head r h
moved_expression base (neg r a) = neg r (moved_expression base a)
moved_expression base (pair r o a b) = pair r o (moved_expression base a) (moved_expression base b)
moved_expression base (pick r c a b) =
    pick r (moved_expression base c) (moved_expression base a) (moved_expression base b)
moved_expression base (apply r f a) = apply r f (moved_expression base a)

-- an argument moved by the base numbers
abbrev pub moved_argument : PerRate ℕ → Argument → Argument
moved_argument base (value e) = value (moved_expression base e)
moved_argument base (text v) = text (moved_variable base v)

abbrev mutual
  pub moved : PerRate ℕ → Statement → Statement
  moved base (set line r v e) = set line r (moved_variable base v) (moved_expression base e)
  moved base (call line r vs opcode args) =
      call line r (map (moved_variable base) vs) opcode (map (moved_argument base) args)
  moved base (choose line r list) = choose line r (moved_arms base list)

  pub moved_block : PerRate ℕ → Block → Block
  moved_block base no_stmt = no_stmt
  moved_block base (andthen x rest) = andthen (moved base x) (moved_block base rest)

  pub moved_arms : PerRate ℕ → Arms → Arms
  moved_arms base (otherwise b) = otherwise (moved_block base b)
  moved_arms base (arm c b rest) = arm (moved_expression base c) (moved_block base b) (moved_arms base rest)

-- the mirror of an expression in the code's tree
abbrev pub of_part : Rate → TypedPart → Expression
of_part r (Number v) = number r v
of_part r (Var v) = var r v
of_part r (Field k) = field r k
of_part r (HeadName' h) = head r h
of_part r (Neg' p ra a) = neg r (of_part ra a)
of_part r (Pair' op p ra a q rb b) = pair r op (of_part ra a) (of_part rb b)
of_part r (Pick' p rc c q ra a s rb b) = pick r (of_part rc c) (of_part ra a) (of_part rb b)
of_part r (Call' f p ra a) = apply r f (of_part ra a)

-- the mirror of a typed expression
abbrev pub expression : TypedExpr → Expression
expression e = of_part e.rate e.what

-- the mirror of a typed argument
abbrev pub argument : TypedArg → Argument
argument (Value e) = value (expression e)
argument (Text v) = text v

-- The statements of the routine at an index; no statements if there is no such routine.
abbrev pub routine_at : List Block → ℕ → Block
routine_at rs k = slice_index_or rs k no_stmt

-- The mirror of a statement: one statement, or, if it invokes a routine, the statements of the routine with
-- its local variables moved by the base numbers.
abbrev mutual
  pub of_what : List Block → ℕ → Rate → TypedWhat → Block
  of_what rs line r (Set v e) = alone (set line r v (expression e))
  of_what rs line r (Call results opcode args) = alone (call line r results opcode (map argument args.items))
  of_what rs line r (Choose' s a t b) = alone (choose line r (of_arms rs (of_block rs b) a))
  of_what rs line r (Invoke k base) = moved_block base (routine_at rs k)

  pub of_block : {m : _} → List Block → Row_of-TypedStmt m → Block
  of_block rs end_of-TypedStmt = no_stmt
  of_block rs (more_of-TypedStmt line r what rest) = then_block (of_what rs line r what) (of_block rs rest)

  pub of_arms : {m : _} → List Block → Block → Row_of-TypedArm m → Arms
  of_arms rs els end_of-TypedArm = otherwise els
  of_arms rs els (more_of-TypedArm (TypedArm' cond s body) rest) =
      arm (expression cond) (of_block rs body) (of_arms rs els rest)

-- the mirror of a typed statement
abbrev pub statement : List Block → TypedStmt → Block
statement rs s = of_what rs s.line s.rate s.what

-- the mirror of a list of statements
abbrev pub block : List Block → List TypedStmt → Block
block rs [] = no_stmt
block rs (s ∷ ss) = then_block (statement rs s) (block rs ss)

-- the mirror of a list of arms, with the statements after `else`
abbrev pub arms : List Block → Block → List TypedArm → Arms
arms rs els [] = otherwise els
arms rs els (a ∷ rest) =
    arm (expression (out-TypedArm a).cond) (block rs (out-TypedArm a).body.items) (arms rs els rest)

-- the mirrors of routines, after some others: each may invoke those before it
abbrev pub more_routines : List Block → List (Vec TypedStmt) → List Block
more_routines rs [] = rs
more_routines rs (r ∷ rest) = more_routines (rs ++ block rs r.items ∷ []) rest

-- the mirrors of all routines
abbrev pub routines : List (Vec TypedStmt) → List Block
routines list = more_routines [] list

-- the mirror of an instrument
abbrev pub instrument : List Block → TypedInstr → Instrument
instrument rs i = record { line = i.line; numbers = i.numbers; body = block rs i.body.items }

-- the mirror of the names of shared variables and channels
abbrev pub shared_names : Globals → SharedNames
shared_names g = record { variables = g.variables; control = g.control; sound = g.sound }

-- the mirror of an orchestra
abbrev pub orchestra : TypedOrc → Orchestra
orchestra o =
    let rs = routines o.routines.items in
    record {
      head = header_of_head o.head;
      spaces = o.spaces;
      zero = block rs o.zero.items;
      instrs = map (instrument rs) o.instrs.items;
      globals = shared_names o.globals;
    }
