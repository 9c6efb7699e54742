use Rattle.std.proofs.Common.{refl}
use Rattle.cs_arguments.specs.Reading.{after, said}
use Rattle.cs_arguments.proofs.worked.words_with_a_reading.Goals as goal

pub returns-clause-names : goal.returns-clause-names
unfolding after said
returns-clause-names c = refl

pub returns-clause-csd : goal.returns-clause-csd
unfolding after said
returns-clause-csd c = refl

pub returns-clause-flags : goal.returns-clause-flags
unfolding after said
returns-clause-flags c = refl

pub returns-clause-idle : goal.returns-clause-idle
unfolding after said
returns-clause-idle c = refl

pub returns-clause-one_equals : goal.returns-clause-one_equals
unfolding after said
returns-clause-one_equals c = refl

pub returns-clause-number : goal.returns-clause-number
unfolding after said
returns-clause-number c = refl

pub returns-clause-most : goal.returns-clause-most
unfolding after said
returns-clause-most c = refl

pub returns-clause-demo : goal.returns-clause-demo
unfolding after said
returns-clause-demo c = refl

pub returns-clause-only_names : goal.returns-clause-only_names
unfolding after said
returns-clause-only_names c = refl

pub returns-clause-dashed_names : goal.returns-clause-dashed_names
unfolding after said
returns-clause-dashed_names c = refl

pub returns-clause-one_dash : goal.returns-clause-one_dash
unfolding after said
returns-clause-one_dash c = refl
