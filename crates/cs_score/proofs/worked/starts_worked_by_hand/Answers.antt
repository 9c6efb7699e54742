use Rattle.std.proofs.Common.{refl}
use Rattle.cs_gen.specs.Faults.{table_fault, is_size, lengths, is_gen, has_negative_length}
use Rattle.cs_score.specs.Statements.{score_of}
use Rattle.cs_score.proofs.worked.starts_worked_by_hand.Goals as goal

pub returns-clause-plus : goal.returns-clause-plus
unfolding score_of table_fault is_size lengths is_gen has_negative_length
returns-clause-plus c = refl

pub returns-clause-left_off : goal.returns-clause-left_off
unfolding score_of table_fault is_size lengths is_gen has_negative_length
returns-clause-left_off c = refl

pub returns-clause-base : goal.returns-clause-base
unfolding score_of table_fault is_size lengths is_gen has_negative_length
returns-clause-base c = refl

pub returns-clause-held : goal.returns-clause-held
unfolding score_of table_fault is_size lengths is_gen has_negative_length
returns-clause-held c = refl

pub returns-clause-stops : goal.returns-clause-stops
unfolding score_of table_fault is_size lengths is_gen has_negative_length
returns-clause-stops c = refl

pub returns-clause-same_value : goal.returns-clause-same_value
unfolding score_of table_fault is_size lengths is_gen has_negative_length
returns-clause-same_value c = refl

pub returns-clause-other_sign : goal.returns-clause-other_sign
unfolding score_of table_fault is_size lengths is_gen has_negative_length
returns-clause-other_sign c = refl

pub returns-clause-past_base : goal.returns-clause-past_base
unfolding score_of table_fault is_size lengths is_gen has_negative_length
returns-clause-past_base c = refl

pub returns-clause-comments_between : goal.returns-clause-comments_between
unfolding score_of table_fault is_size lengths is_gen has_negative_length
returns-clause-comments_between c = refl

pub returns-clause-next_section : goal.returns-clause-next_section
unfolding score_of table_fault is_size lengths is_gen has_negative_length
returns-clause-next_section c = refl
