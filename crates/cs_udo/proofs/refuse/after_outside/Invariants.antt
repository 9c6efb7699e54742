use Rattle.std.proofs.Common.{◌≡◌, drop}
use Rattle.cs_udo.specs.{Refused.faults_outside, Library.definitions_of, inner.Walks.after_faults}
use Rattle.cs_grammar.specs.Tree as tree
use Rattle.cs_udo.proofs.refuse.after_outside.Given as goal

abbrev pub invariant-loop-s : goal.invariant-loop-s
invariant-loop-s l =
    after_faults l.known (faults_outside (definitions_of l.library) (tree.block (drop l.s-index l.outside)))
    ≡ after_faults l.fn.first (faults_outside (definitions_of l.library) (tree.block l.outside))
