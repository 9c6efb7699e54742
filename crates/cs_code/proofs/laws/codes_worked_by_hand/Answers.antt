use Rattle.cs_code.proofs.Worked.{counter_code, terms_code, tone_code}
use Rattle.cs_code.proofs.laws.codes_worked_by_hand.Goals as goal

pub returns-clause-counts : goal.returns-clause-counts
returns-clause-counts c = counter_code

pub returns-clause-sums : goal.returns-clause-sums
returns-clause-sums c = terms_code

pub returns-clause-sounds : goal.returns-clause-sounds
returns-clause-sounds c = tone_code
