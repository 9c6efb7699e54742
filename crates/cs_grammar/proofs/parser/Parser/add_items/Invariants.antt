use Rattle.std.proofs.Common.{List, length}
use Rattle.cs_grammar.specs.inner.Answers.{IsDraft}
use Rattle.cs_grammar.specs.Symbols.{Symbol}
use Rattle.cs_grammar.proofs.parser.Parser.add_items.Given as goal

abbrev pub invariant-loop-self : goal.invariant-loop-self
invariant-loop-self l =
    (first : List Symbol) → IsDraft first l.fn.draft l.fn.self → IsDraft first l.draft l.self

abbrev pub decreases-loop-self : goal.decreases-loop-self
decreases-loop-self l = length l.self
