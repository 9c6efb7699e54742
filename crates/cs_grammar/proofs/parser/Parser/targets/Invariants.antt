use Rattle.std.proofs.Common.{length, ◌≤◌, []}
use Rattle.cs_grammar.specs.Lines.{one_target}
use Rattle.cs_grammar.proofs.SoFar.{RowSoFar}
use Rattle.cs_grammar.proofs.parser.Parser.targets.Given as goal

abbrev pub invariant-loop-names : goal.invariant-loop-names
invariant-loop-names l = record {
  reads : RowSoFar (one_target l.scope) [] l.fn.self l.names l.names l.self;
  goes : length l.self ≤ length l.fn.self;
}

abbrev pub decreases-loop-names : goal.decreases-loop-names
decreases-loop-names l = length l.self
