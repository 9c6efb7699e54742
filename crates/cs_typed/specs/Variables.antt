-- The variables and channels that a typed tree reads or assigns by name.
use Rattle.std.specs.List.{All}
use Rattle.cs_typed.specs.TypedTree.{Expression, number, var, field, head, neg, pair, pick, apply, Argument, value}
use Rattle.cs_typed.specs.TypedTree.{text, Statement, set, call, choose, Block, no_stmt, andthen, Arms, otherwise, arm}
use Rattle.cs_typed.specs.declared.tree.Var.{Var as Variable}

-- P holds of each variable in an expression
abbrev pub EachInExpression : (Variable → Type 0) → Expression → Type 0
EachInExpression P (number r n) = Unit {0}
EachInExpression P (var r v) = P v
EachInExpression P (field r k) = Unit {0}
EachInExpression P (head r h) = Unit {0}
EachInExpression P (neg r a) = EachInExpression P a
EachInExpression P (pair r o a b) = EachInExpression P a × EachInExpression P b
EachInExpression P (pick r c a b) = EachInExpression P c × EachInExpression P a × EachInExpression P b
EachInExpression P (apply r f a) = EachInExpression P a

-- P holds of each variable in an argument, which is a value or a channel
abbrev pub EachInArgument : (Variable → Type 0) → Argument → Type 0
EachInArgument P (value e) = EachInExpression P e
EachInArgument P (text v) = P v

-- P holds of each variable in statements, whether they read it or assign it
abbrev mutual
  pub EachInStatement : (Variable → Type 0) → Statement → Type 0
  EachInStatement P (set line r v e) = P v × EachInExpression P e
  EachInStatement P (call line r vs opcode args) = All P vs × All (EachInArgument P) args
  EachInStatement P (choose line r list) = EachInArms P list

  pub EachInBlock : (Variable → Type 0) → Block → Type 0
  EachInBlock P no_stmt = Unit {0}
  EachInBlock P (andthen x rest) = EachInStatement P x × EachInBlock P rest

  pub EachInArms : (Variable → Type 0) → Arms → Type 0
  EachInArms P (otherwise b) = EachInBlock P b
  EachInArms P (arm c b rest) = EachInExpression P c × EachInBlock P b × EachInArms P rest
