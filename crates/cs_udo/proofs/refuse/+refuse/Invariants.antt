use Rattle.std.proofs.Common.{◌≡◌, drop}
use Rattle.cs_udo.specs.{Refused.faults_in, Refused.faults_in_arms, inner.Walks.after_faults}
use Rattle.cs_udo.specs.Library.{definitions_of, opcodes_of}
use Rattle.cs_grammar.specs.Tree as tree
use Rattle.cs_udo.proofs.refuse.+refuse.Given as goal

-- the faults so far, followed by the faults of the remaining statements, are all faults
abbrev pub invariant-after_block-loop-s : goal.invariant-after_block-loop-s
invariant-after_block-loop-s l =
    after_faults l.known (faults_in (opcodes_of (definitions_of l.site.library.now) l.site.visible) l.site.inside
    (tree.block (drop l.s-index l.stmts)))
    ≡ after_faults l.fn.first
    (faults_in (opcodes_of (definitions_of l.site.library.now) l.site.visible) l.site.inside (tree.block l.stmts))

abbrev pub invariant-after_arms-loop-a : goal.invariant-after_arms-loop-a
invariant-after_arms-loop-a l =
    (els : tree.Block)
    → after_faults l.known (faults_in_arms (opcodes_of (definitions_of l.site.library.now) l.site.visible) l.site.inside
    (tree.arms els (drop l.a-index l.list)))
    ≡ after_faults l.fn.first
    (faults_in_arms (opcodes_of (definitions_of l.site.library.now) l.site.visible) l.site.inside
    (tree.arms els l.list))
