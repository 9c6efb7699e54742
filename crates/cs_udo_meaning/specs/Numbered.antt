-- The typed form of statements, given a variable for each name. Typing produces this form once all names of a
-- text are known. cs_typing defines it for expressions and calls.
use Rattle.std.specs.Prelude.{ℕ, zero, suc, ◌+◌, List, [], ◌∷◌, ◌≡◌, if◌then◌else◌}
use Rattle.cs_words.specs.Names.{name_rate, is_global}
use Rattle.cs_grammar.specs.Tree.{Statement, set, call, choose, Block, no_stmt, andthen, Arms, otherwise, arm}
use Rattle.cs_typing.specs.{Known.Shared, Known.place_in, Known.global, Statements.choice_rate}
use Rattle.cs_typed.specs.TypedTree as typed
use Rattle.cs_typed.specs.declared.tree.Var.TheVariants as variant
pub use Rattle.cs_typing.specs.Calls.{argument_by, arguments_by, row_by, call_by}
pub use Rattle.cs_typing.specs.Expressions.{Variables, expression_by}

-- a number for the name of each local variable
abbrev pub Numbering : Type 0
Numbering = List ℕ → ℕ

-- A numbering distinguishes names: two names of the same rate have different numbers.
abbrev pub Tells : Numbering → Type 0
Tells s = (x y : List ℕ) → name_rate x ≡ name_rate y → s x ≡ s y → x ≡ y

-- A number for every possible name, which distinguishes all names.
abbrev pub pushed : ℕ → ℕ → ℕ
pushed zero n = suc (n + n)
pushed (suc b) n = pushed b n + pushed b n

-- a number for every name, made of its bytes
abbrev pub spelled : Numbering
spelled [] = 0
spelled (b ∷ bs) = pushed b (spelled bs)

-- a shared name has its number among the shared names of its rate
abbrev pub numbered : Shared → Numbering → Variables
numbered g s name =
    if is_global name then variant.Global (global (name_rate name) (place_in g.globals name))
    else variant.Local (name_rate name) (s name)

-- statements, with a variable for each name
abbrev mutual
  pub statement_by : Shared → Variables → Statement → typed.Statement
  statement_by g v (set line name e) = typed.set line (name_rate name) (v name) (expression_by v e)
  statement_by g v (call line results c args) = call_by line g v c results args
  statement_by g v (choose line list) = typed.choose line (choice_rate list) (arms_by g v list)

  pub block_by : Shared → Variables → Block → typed.Block
  block_by g v no_stmt = typed.no_stmt
  block_by g v (andthen x rest) = typed.andthen (statement_by g v x) (block_by g v rest)

  pub arms_by : Shared → Variables → Arms → typed.Arms
  arms_by g v (otherwise b) = typed.otherwise (block_by g v b)
  arms_by g v (arm c b rest) = typed.arm (expression_by v c) (block_by g v b) (arms_by g v rest)
