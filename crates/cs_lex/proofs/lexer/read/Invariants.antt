use Rattle.std.proofs.Common.{length, ◌-◌, ◌≤◌}
use Rattle.cs_lex.proofs.Reading.{Read}
use Rattle.cs_lex.proofs.lexer.read.Given as goal

abbrev pub invariant-loop-at : goal.invariant-loop-at
invariant-loop-at l = record {
  within : l.at ≤ length l.source;
  read : Read l.first_line l.source l.at l.line l.fed l.tokens;
}

abbrev pub decreases-loop-at : goal.decreases-loop-at
decreases-loop-at l = length l.source - l.at
