use Rattle.cs_udo_meaning.proofs.Renumbered.{any_numbers, names_lead}
use Rattle.cs_udo_meaning.proofs.laws.shared_names_have_any_numbers.Goals as goal

pub returns-clause-numbers : goal.returns-clause-numbers
returns-clause-numbers g c = names_lead

pub returns-clause-lives : goal.returns-clause-lives
returns-clause-lives g c = any_numbers _
