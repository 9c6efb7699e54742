use Rattle.std.proofs.Common.{◌≡◌, drop, length}
use Rattle.cs_udo.specs.{Counted.counts_in, Counted.counts_in_arms, inner.Tallies.after_counts}
use Rattle.cs_udo.specs.Library.{definitions_of, opcodes_of}
use Rattle.cs_grammar.specs.Tree as tree
use Rattle.cs_udo.proofs.tally.+tally.Given as goal

-- the counts so far, followed by the counts of the remaining statements, are all counts
abbrev pub invariant-after_block-loop-s : goal.invariant-after_block-loop-s
invariant-after_block-loop-s l =
    after_counts l.known (counts_in (opcodes_of (definitions_of l.prices.library.now) (length l.prices.costs.now))
    (tree.block (drop l.s-index l.stmts)))
    ≡ after_counts l.fn.before
    (counts_in (opcodes_of (definitions_of l.prices.library.now) (length l.prices.costs.now)) (tree.block l.stmts))

abbrev pub invariant-after_arms-loop-a : goal.invariant-after_arms-loop-a
invariant-after_arms-loop-a l =
    (els : tree.Block)
    → after_counts l.known (counts_in_arms
    (opcodes_of (definitions_of l.prices.library.now) (length l.prices.costs.now))
    (tree.arms els (drop l.a-index l.list)))
    ≡ after_counts l.fn.before
    (counts_in_arms (opcodes_of (definitions_of l.prices.library.now) (length l.prices.costs.now))
    (tree.arms els l.list))
