-- The tree of an orchestra as definitions see it: the same shapes, without the addresses of boxes and the
-- capacities of vectors.
use Rattle.std.specs.Prelude.{ℕ, ℤ, List, [], ◌∷◌, map}
use Rattle.cs_base.specs.declared.resource.Rate.{Rate}
use Rattle.cs_words.specs.{declared.word.HeadName.HeadName, declared.sign.BinOp.BinOp, declared.word.Func.Func}
use Rattle.cs_grammar.specs.{declared.tree.Expr.Expr, declared.tree.Arg.Arg, declared.tree.Callee.Callee}
use Rattle.cs_grammar.specs.{declared.tree.OrcStmt.OrcStmt, declared.tree.HeadLine.HeadLine, declared.tree.Instr.Instr}
use Rattle.cs_grammar.specs.{declared.tree.Udo.Udo, declared.tree.Orc.Orc}
use Rattle.cs_grammar.specs.declared.tree.Expr.TheVariants.{Number, Var, Field, Head, Neg', Pair', Pick', Call'}
use Rattle.cs_grammar.specs.declared.tree.Arg.TheVariants.{Value, Text}
use Rattle.cs_grammar.specs.declared.tree.StmtWhat.{StmtWhat, Row_of-Arm, end_of-Arm, more_of-Arm, Row_of-OrcStmt}
use Rattle.cs_grammar.specs.declared.tree.StmtWhat.{end_of-OrcStmt, more_of-OrcStmt}
use Rattle.cs_grammar.specs.declared.tree.StmtWhat.TheVariants.{Set, Call, Choose'}
use Rattle.cs_grammar.specs.declared.tree.Arm.{Arm, Arm', out-Arm}

pub data Expression : Type 0 where
  number : ℤ → Expression
  var : List ℕ → Expression
  field : ℕ → Expression
  head : HeadName → Expression
  neg : Expression → Expression
  pair : BinOp → Expression → Expression → Expression
  pick : Expression → Expression → Expression → Expression
  apply : Func → Expression → Expression

-- an argument: a value, or a text without its quotation marks
pub data Argument : Type 0 where
  value : Expression → Argument
  text : List ℕ → Argument

-- A statement, with its line first. An `if` is a chain of arms, which ends with the statements after `else`.
mutual
  pub data Statement : Type 0 where
    set : ℕ → List ℕ → Expression → Statement
    call : ℕ → List (List ℕ) → Callee → List Argument → Statement
    choose : ℕ → Arms → Statement

  pub data Block : Type 0 where
    no_stmt : Block
    andthen : Statement → Block → Block

  pub data Arms : Type 0 where
    otherwise : Block → Arms
    arm : Expression → Block → Arms → Arms

-- an instrument, with the line of its `instr`
pub record Instrument : Type 0 where
  pub line : ℕ
  pub numbers : List ℕ
  pub body : Block

-- a user-defined opcode, with the line of its `opcode`
pub record Definition : Type 0 where
  pub line : ℕ
  pub name : List ℕ
  pub outs : List Rate
  pub ins : List Rate
  pub names : List (List ℕ)
  pub body : Block
  pub result : List Argument

-- an orchestra: each list in the order of the text
pub record Orchestra : Type 0 where
  pub head : List HeadLine
  pub opcodes : List Definition
  pub zero : Block
  pub instrs : List Instrument

-- the mirror of an expression in the code's tree
abbrev pub expression : Expr → Expression
expression (Number v) = number v
expression (Var name) = var name
expression (Field k) = field k
expression (Head h) = head h
expression (Neg' p a) = neg (expression a)
expression (Pair' op p a q b) = pair op (expression a) (expression b)
expression (Pick' p c q a r b) = pick (expression c) (expression a) (expression b)
expression (Call' f p a) = apply f (expression a)

-- the mirror of an argument
abbrev pub argument : Arg → Argument
argument (Value e) = value (expression e)
argument (Text bytes) = text bytes

abbrev mutual
  pub of_what : ℕ → StmtWhat → Statement
  of_what line (Set name e) = set line name (expression e)
  of_what line (Call results callee args) = call line results callee (map argument args.items)
  of_what line (Choose' s a t b) = choose line (of_arms (of_block b) a)

  pub of_block : {m : _} → Row_of-OrcStmt m → Block
  of_block end_of-OrcStmt = no_stmt
  of_block (more_of-OrcStmt line what rest) = andthen (of_what line what) (of_block rest)

  pub of_arms : {m : _} → Block → Row_of-Arm m → Arms
  of_arms els end_of-Arm = otherwise els
  of_arms els (more_of-Arm (Arm' cond s body) rest) = arm (expression cond) (of_block body) (of_arms els rest)

-- the mirror of a statement
abbrev pub statement : OrcStmt → Statement
statement s = of_what s.line s.what

-- the mirror of a list of statements
abbrev pub block : List OrcStmt → Block
block [] = no_stmt
block (s ∷ ss) = andthen (statement s) (block ss)

-- the statements of two blocks, one after the other
abbrev pub joins : Block → Block → Block
joins no_stmt b = b
joins (andthen x rest) b = andthen x (joins rest b)

-- the mirror of a list of arms, with the statements after `else`
abbrev pub arms : Block → List Arm → Arms
arms els [] = otherwise els
arms els (a ∷ rest) = arm (expression (out-Arm a).cond) (block (out-Arm a).body.items) (arms els rest)

-- the mirror of an instrument
abbrev pub instrument : Instr → Instrument
instrument i = record { line = i.line; numbers = i.numbers; body = block i.body.items }

-- the mirror of a definition
abbrev pub definition : Udo → Definition
definition u = record {
  line = u.line;
  name = u.name;
  outs = u.outs;
  ins = u.ins;
  names = u.names;
  body = block u.body.items;
  result = map argument u.result.items;
}

-- the mirror of an orchestra
abbrev pub orchestra : Orc → Orchestra
orchestra o = record {
  head = o.head.items;
  opcodes = map definition o.opcodes.items;
  zero = block o.zero.items;
  instrs = map instrument o.instrs.items;
}
