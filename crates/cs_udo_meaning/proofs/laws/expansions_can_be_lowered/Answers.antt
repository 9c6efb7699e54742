use Rattle.cs_udo_meaning.proofs.Fit.{expansion_lacks, expansion_once}
use Rattle.cs_udo_meaning.proofs.laws.expansions_can_be_lowered.Goals as goal

pub returns-clause-no_zakinit : goal.returns-clause-no_zakinit
returns-clause-no_zakinit c = expansion_lacks

pub returns-clause-numbers : goal.returns-clause-numbers
returns-clause-numbers c = expansion_once
