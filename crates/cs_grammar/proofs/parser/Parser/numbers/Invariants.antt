use Rattle.std.proofs.Common.{◌≡◌, ◌++◌, length}
use Rattle.cs_grammar.specs.Lines.{one_number}
use Rattle.cs_grammar.proofs.SoFar.{RowSoFar}
use Rattle.cs_grammar.proofs.parser.Parser.numbers.Given as goal

abbrev pub invariant-loop-numbers : goal.invariant-loop-numbers
invariant-loop-numbers l = record {
  reads : RowSoFar (one_number l.scope) l.fn.given.keys l.fn.self l.numbers l.given.keys l.self;
  given : l.given.keys ≡ l.fn.given.keys ++ l.numbers;
}

abbrev pub decreases-loop-numbers : goal.decreases-loop-numbers
decreases-loop-numbers l = length l.self
