use Rattle.cs_lex.proofs.Spans.{within, end_alone, ascending, new_lines}
use Rattle.cs_lex.proofs.laws.tokens_stand_in_the_text.Goals as goal

pub returns : goal.returns
returns c = record {
  within = λ text. within text.first_line text.bytes;
  last = λ text. end_alone text.first_line text.bytes;
  ascending = λ text. ascending text.first_line text.bytes;
  new_lines = λ text. new_lines text.first_line text.bytes;
}
