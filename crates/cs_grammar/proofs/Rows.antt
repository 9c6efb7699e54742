-- The rows of statements and arms in the code's tree, read as its lists.
use Rattle.std.proofs.Common.{◌≡◌, rules}
use mathlib.Core.Former.{Count}
use Rattle.cs_grammar.specs.{declared.tree.Arm.Arm', declared.tree.StmtWhat.TheViews.the_lemmas}
use Rattle.cs_grammar.specs.declared.tree.StmtWhat.{Row_of-Arm, end_of-Arm, more_of-Arm, Row_of-OrcStmt, end_of-OrcStmt}
use Rattle.cs_grammar.specs.declared.tree.StmtWhat.{more_of-OrcStmt, items-the_row-OrcStmt, items-the_row-Arm}
use Rattle.cs_grammar.specs.Tree.{Block, arms, block, of_arms, of_block}

pub block_is : (n : Count) (row : Row_of-OrcStmt n) → of_block row ≡ block (items-the_row-OrcStmt n row)
block_is _ end_of-OrcStmt = search (rules, the_lemmas)
block_is _ (more_of-OrcStmt line what rest) = search (rules, the_lemmas, block_is _ rest)

pub arms_is : (n : Count) (els : Block) (row : Row_of-Arm n) → of_arms els row ≡ arms els (items-the_row-Arm n row)
arms_is _ els end_of-Arm = search (rules, the_lemmas)
arms_is _ els (more_of-Arm (Arm' cond s body) rest) = search (rules, the_lemmas, block_is, arms_is _ els rest)
