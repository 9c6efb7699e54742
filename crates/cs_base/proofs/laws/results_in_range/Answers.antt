use Rattle.cs_base.proofs.Arithmetic.{decimal_in_range}
use Rattle.cs_base.proofs.laws.results_in_range.Goals as goal

pub returns-clause-decimal : goal.returns-clause-decimal
returns-clause-decimal c = decimal_in_range
