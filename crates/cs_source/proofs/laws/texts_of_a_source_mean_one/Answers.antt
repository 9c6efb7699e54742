use Rattle.cs_source.proofs.{Meanings.mean_one, Meant.mean_head, Meant.mean_some}
use Rattle.cs_source.proofs.laws.texts_of_a_source_mean_one.Goals as goal

pub returns-clause-some : goal.returns-clause-some
returns-clause-some c = mean_some c.texts_have_one_meaning.ensures.some c.one_reading.ensures.some

pub returns-clause-one : goal.returns-clause-one
returns-clause-one c = mean_one c.texts_have_one_meaning.ensures.one c.one_reading.ensures.one

pub returns-clause-head : goal.returns-clause-head
returns-clause-head c = mean_head c.texts_have_one_meaning.ensures.head
