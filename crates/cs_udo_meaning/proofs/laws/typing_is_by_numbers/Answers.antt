use Rattle.cs_udo_meaning.proofs.{Numbers.spelled_tells, TypedBy.all_numbered, TypedBy.outside_numbered}
use Rattle.cs_udo_meaning.proofs.laws.typing_is_by_numbers.Goals as goal

pub returns-clause-instruments : goal.returns-clause-instruments
returns-clause-instruments c = all_numbered

pub returns-clause-outside : goal.returns-clause-outside
returns-clause-outside c = outside_numbered

pub returns-clause-spelled : goal.returns-clause-spelled
returns-clause-spelled c = spelled_tells
