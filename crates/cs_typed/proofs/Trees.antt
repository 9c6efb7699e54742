-- The rows of statements and arms in the code's typed tree, read as its lists.
use Rattle.std.proofs.Common.{◌≡◌, List, rules}
use mathlib.Core.Former.{Count}
use Rattle.cs_typed.specs.{declared.tree.TypedArm.TypedArm', declared.tree.TypedWhat.TheViews.the_lemmas}
use Rattle.cs_typed.specs.declared.tree.TypedWhat.{Row_of-TypedArm, end_of-TypedArm, more_of-TypedArm, Row_of-TypedStmt}
use Rattle.cs_typed.specs.declared.tree.TypedWhat.{end_of-TypedStmt, more_of-TypedStmt, items-the_row-TypedStmt}
use Rattle.cs_typed.specs.declared.tree.TypedWhat.{items-the_row-TypedArm}
use Rattle.cs_typed.specs.TypedTree.{Block, block, arms, of_block, of_arms}

pub typed_block_is : (rs : List Block) (n : Count) (row : Row_of-TypedStmt n)
    → of_block rs row ≡ block rs (items-the_row-TypedStmt n row)
typed_block_is rs _ end_of-TypedStmt = search (rules, the_lemmas)
typed_block_is rs _ (more_of-TypedStmt line r what rest) = search (rules, the_lemmas, typed_block_is rs _ rest)

pub typed_arms_is : (rs : List Block) (n : Count) (els : Block) (row : Row_of-TypedArm n)
    → of_arms rs els row ≡ arms rs els (items-the_row-TypedArm n row)
typed_arms_is rs _ els end_of-TypedArm = search (rules, the_lemmas)
typed_arms_is rs _ els (more_of-TypedArm (TypedArm' cond s body) rest) =
    search (rules, the_lemmas, typed_block_is rs, typed_arms_is rs _ els rest)
