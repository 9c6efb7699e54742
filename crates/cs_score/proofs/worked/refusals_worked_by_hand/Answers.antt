use Rattle.std.proofs.Common.{refl}
use Rattle.cs_gen.specs.Faults.{table_fault, is_size, lengths, is_gen, has_negative_length}
use Rattle.cs_score.specs.Statements.{score_of}
use Rattle.cs_score.proofs.worked.refusals_worked_by_hand.Goals as goal

pub returns-clause-bad_statement : goal.returns-clause-bad_statement
unfolding score_of table_fault is_size lengths is_gen has_negative_length
returns-clause-bad_statement c = (refl, (refl, tt))

pub returns-clause-bad_number : goal.returns-clause-bad_number
unfolding score_of table_fault is_size lengths is_gen has_negative_length
returns-clause-bad_number c = (refl, (refl, (refl, (refl, (refl, (refl, tt))))))

pub returns-clause-missing_field : goal.returns-clause-missing_field
unfolding score_of table_fault is_size lengths is_gen has_negative_length
returns-clause-missing_field c = (refl, (refl, (refl, (refl, (refl, tt)))))

pub returns-clause-nothing_to_carry : goal.returns-clause-nothing_to_carry
unfolding score_of table_fault is_size lengths is_gen has_negative_length
returns-clause-nothing_to_carry c = refl

pub returns-clause-bad_tempo : goal.returns-clause-bad_tempo
unfolding score_of table_fault is_size lengths is_gen has_negative_length
returns-clause-bad_tempo c = (refl, (refl, tt))

pub returns-clause-bad_gen : goal.returns-clause-bad_gen
unfolding score_of table_fault is_size lengths is_gen has_negative_length
returns-clause-bad_gen c = refl

pub returns-clause-bad_size : goal.returns-clause-bad_size
unfolding score_of table_fault is_size lengths is_gen has_negative_length
returns-clause-bad_size c = refl

pub returns-clause-resized : goal.returns-clause-resized
unfolding score_of table_fault is_size lengths is_gen has_negative_length
returns-clause-resized c = refl

pub returns-clause-negative_time : goal.returns-clause-negative_time
unfolding score_of table_fault is_size lengths is_gen has_negative_length
returns-clause-negative_time c = (refl, (refl, tt))

pub returns-clause-not_in_profile : goal.returns-clause-not_in_profile
unfolding score_of table_fault is_size lengths is_gen has_negative_length
returns-clause-not_in_profile c = (refl, (refl, (refl, (refl, (refl, (refl, tt))))))
