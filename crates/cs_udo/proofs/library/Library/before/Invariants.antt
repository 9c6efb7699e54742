use Rattle.std.proofs.Common.{◌≡◌, ◌+◌, drop, map, nat_lt}
use Rattle.std.specs.List.{prefix_len}
use Rattle.cs_grammar.specs.Tree.{definition}
use Rattle.cs_udo.proofs.library.Library.before.Given as goal

abbrev pub invariant-loop-definition : goal.invariant-loop-definition
invariant-loop-definition l =
    (l.count ≡ l.definition-index)
    × (l.count + prefix_len (λ d. nat_lt d.line l.line)
    (map definition (drop l.definition-index l.self.definitions.now))
    ≡ prefix_len (λ d. nat_lt d.line l.line) (map definition l.self.definitions.now))
