use Rattle.std.proofs.Common.{refl, codes}
use Rattle.cs_lex.proofs.Computed.{reads, refuses}
use Rattle.cs_lex.proofs.laws.worked_examples.Goals as goal

pub returns-clause-longest_sign : goal.returns-clause-longest_sign
returns-clause-longest_sign c = reads 1 9 (codes "<==") _ refl refl

pub returns-clause-longest_number : goal.returns-clause-longest_number
returns-clause-longest_number c = reads 1 9 (codes "1.2.3") _ refl refl

pub returns-clause-comment_of_two_lines : goal.returns-clause-comment_of_two_lines
returns-clause-comment_of_two_lines c = reads 1 9 (codes "a/*\n*/b") _ refl refl

pub returns-clause-one_new_line : goal.returns-clause-one_new_line
returns-clause-one_new_line c = reads 1 9 (codes "\na\n;x\nb") _ refl refl

pub returns-clause-open_comment : goal.returns-clause-open_comment
returns-clause-open_comment c = refuses 1 9 (codes "a\n/*/") _ _ _ _ refl refl refl

pub returns-clause-exponent : goal.returns-clause-exponent
returns-clause-exponent c = refuses 1 9 (codes "1e3") _ _ _ _ refl refl refl

pub returns-clause-stray : goal.returns-clause-stray
returns-clause-stray c = refuses 1 9 (codes "a1 = @x") _ _ _ _ refl refl refl

pub returns-clause-part_of_a_file : goal.returns-clause-part_of_a_file
returns-clause-part_of_a_file c = reads 4 9 (codes "a\n") _ refl refl

pub returns-clause-fault_in_a_part : goal.returns-clause-fault_in_a_part
returns-clause-fault_in_a_part c = refuses 4 9 (codes "a\n@") _ _ _ _ refl refl refl
