use Rattle.std.proofs.Common.{refl}
use Rattle.cs_gen.specs.Faults.{table_fault, is_size, lengths, is_gen, has_negative_length}
use Rattle.cs_score.specs.Statements.{score_of}
use Rattle.cs_score.proofs.worked.fields_worked_by_hand.Goals as goal

pub returns-clause-tiny : goal.returns-clause-tiny
unfolding score_of table_fault is_size lengths is_gen has_negative_length
returns-clause-tiny c = refl

pub returns-clause-whole_by_nine : goal.returns-clause-whole_by_nine
unfolding score_of table_fault is_size lengths is_gen has_negative_length
returns-clause-whole_by_nine c = (refl, refl)

pub returns-clause-within_word : goal.returns-clause-within_word
unfolding score_of table_fault is_size lengths is_gen has_negative_length
returns-clause-within_word c = refl

pub returns-clause-at_once : goal.returns-clause-at_once
unfolding score_of table_fault is_size lengths is_gen has_negative_length
returns-clause-at_once c = refl

pub returns-clause-ended : goal.returns-clause-ended
unfolding score_of table_fault is_size lengths is_gen has_negative_length
returns-clause-ended c = refl

pub returns-clause-table : goal.returns-clause-table
unfolding score_of table_fault is_size lengths is_gen has_negative_length
returns-clause-table c = refl
