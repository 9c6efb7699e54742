use Rattle.std.proofs.Common.{◌≡◌, drop, map}
use Rattle.cs_udo.specs.{Counted.limits, Library.definitions_of}
use Rattle.cs_grammar.specs.Tree as tree
use Rattle.cs_udo.proofs.tally.first_limit.Given as goal

abbrev pub invariant-loop-i : goal.invariant-loop-i
invariant-loop-i l =
    limits (definitions_of l.library) l.given (map tree.instrument (drop l.i-index l.instrs))
    ≡ limits (definitions_of l.library) 0 (map tree.instrument l.instrs)
