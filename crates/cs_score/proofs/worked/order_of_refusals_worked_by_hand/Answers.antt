use Rattle.std.proofs.Common.{refl}
use Rattle.cs_gen.specs.Faults.{table_fault, is_size, lengths, is_gen, has_negative_length}
use Rattle.cs_score.specs.Statements.{score_of}
use Rattle.cs_score.proofs.worked.order_of_refusals_worked_by_hand.Goals as goal

pub returns-clause-statements : goal.returns-clause-statements
unfolding score_of table_fault is_size lengths is_gen has_negative_length
returns-clause-statements c = refl

pub returns-clause-letter : goal.returns-clause-letter
unfolding score_of table_fault is_size lengths is_gen has_negative_length
returns-clause-letter c = refl

pub returns-clause-fields_before_count : goal.returns-clause-fields_before_count
unfolding score_of table_fault is_size lengths is_gen has_negative_length
returns-clause-fields_before_count c = (refl, refl, refl)

pub returns-clause-count_before_size : goal.returns-clause-count_before_size
unfolding score_of table_fault is_size lengths is_gen has_negative_length
returns-clause-count_before_size c = refl

pub returns-clause-size_before_gen : goal.returns-clause-size_before_gen
unfolding score_of table_fault is_size lengths is_gen has_negative_length
returns-clause-size_before_gen c = refl

pub returns-clause-size_before_resized : goal.returns-clause-size_before_resized
unfolding score_of table_fault is_size lengths is_gen has_negative_length
returns-clause-size_before_resized c = refl

pub returns-clause-resized_before_gen : goal.returns-clause-resized_before_gen
unfolding score_of table_fault is_size lengths is_gen has_negative_length
returns-clause-resized_before_gen c = refl

pub returns-clause-line_of_letter : goal.returns-clause-line_of_letter
unfolding score_of table_fault is_size lengths is_gen has_negative_length
returns-clause-line_of_letter c = refl

pub returns-clause-line_of_the_file : goal.returns-clause-line_of_the_file
unfolding score_of table_fault is_size lengths is_gen has_negative_length
returns-clause-line_of_the_file c = refl
