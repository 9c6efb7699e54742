use Rattle.cs_compile.proofs.SmallTexts.{is_refused, sounds}
use Rattle.cs_compile.proofs.worked.texts_worked_by_hand.Goals as goal

pub returns-clause-sound : goal.returns-clause-sound
returns-clause-sound c = sounds

pub returns-clause-refused : goal.returns-clause-refused
returns-clause-refused c = is_refused 1

pub returns-clause-refused_in_a_part : goal.returns-clause-refused_in_a_part
returns-clause-refused_in_a_part c = is_refused 7
