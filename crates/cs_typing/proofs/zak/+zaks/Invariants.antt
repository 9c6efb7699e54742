use Rattle.std.proofs.Common.{◌≡◌, drop}
use Rattle.cs_typing.specs.{Settings.zaks_of_block, Settings.zaks_of_arms, inner.Settled.after_zaks}
use Rattle.cs_grammar.specs.Tree as tree
use Rattle.cs_typing.proofs.zak.+zaks.Given as goal

-- the data so far, after the rest, are the data after the whole
abbrev pub invariant-after_block-loop-s : goal.invariant-after_block-loop-s
invariant-after_block-loop-s l =
    after_zaks l.known (zaks_of_block (tree.block (drop l.s-index l.stmts))) ≡ after_zaks l.fn.before
    (zaks_of_block (tree.block l.stmts))

abbrev pub invariant-after_arms-loop-a : goal.invariant-after_arms-loop-a
invariant-after_arms-loop-a l =
    (els : tree.Block) → after_zaks l.known (zaks_of_arms (tree.arms els (drop l.a-index l.list))) ≡ after_zaks
    l.fn.before (zaks_of_arms (tree.arms els l.list))
