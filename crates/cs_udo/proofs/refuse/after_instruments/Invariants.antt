use Rattle.std.proofs.Common.{◌≡◌, drop, map}
use Rattle.cs_udo.specs.{Refused.faults_of_instruments, Library.definitions_of, inner.Walks.after_faults}
use Rattle.cs_grammar.specs.Tree as tree
use Rattle.cs_udo.proofs.refuse.after_instruments.Given as goal

abbrev pub invariant-loop-i : goal.invariant-loop-i
invariant-loop-i l =
    after_faults l.known (faults_of_instruments (definitions_of l.library)
    (map tree.instrument (drop l.i-index l.instrs)))
    ≡ after_faults l.fn.first (faults_of_instruments (definitions_of l.library) (map tree.instrument l.instrs))
