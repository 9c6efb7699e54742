use Rattle.cs_lex.proofs.Cuts.{some_reading, one_list, one_fault, not_both}
use Rattle.cs_lex.proofs.laws.one_reading.Goals as goal

pub returns : goal.returns
returns c = record {
  some = λ text. some_reading text.first_line text.bytes;
  one_list = λ text. one_list text.first_line text.bytes;
  one_fault = λ text. one_fault text.first_line text.bytes;
  not_both = λ text. not_both text.first_line text.bytes;
}
