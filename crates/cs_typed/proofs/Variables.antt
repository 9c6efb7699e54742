-- Properties of each variable in a typed tree.
use Rattle.cs_typed.specs.TypedTree.{Block, no_stmt, andthen, then_block}
use Rattle.cs_typed.specs.{Variables.EachInBlock, declared.tree.Var.Var as Variable}

-- a property of each variable in two blocks, one after the other
pub each_then : (P : Variable → Type 0) (a b : Block) → EachInBlock P a → EachInBlock P b
    → EachInBlock P (then_block a b)
each_then P no_stmt b p q = q
each_then P (andthen x rest) b p q = (p.0, each_then P rest b p.1 q)
