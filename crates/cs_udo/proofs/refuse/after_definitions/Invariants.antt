use Rattle.std.proofs.Common.{◌≡◌, drop}
use Rattle.cs_udo.specs.{Expanded.no_opcodes, Refused.faults_of_definitions, inner.Walks.after_faults}
use Rattle.cs_udo.specs.Library.{definitions_of, opcodes_of}
use Rattle.cs_udo.proofs.refuse.after_definitions.Given as goal

abbrev pub invariant-loop-i : goal.invariant-loop-i
invariant-loop-i l =
    after_faults l.known (faults_of_definitions (opcodes_of (definitions_of l.library) l.i)
    (drop l.i (definitions_of l.library)))
    ≡ after_faults l.fn.first (faults_of_definitions no_opcodes (definitions_of l.library))
