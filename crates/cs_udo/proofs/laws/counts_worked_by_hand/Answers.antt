use Rattle.std.proofs.Common.{refl}
use Rattle.cs_udo.proofs.laws.counts_worked_by_hand.Goals as goal

pub returns-clause-call : goal.returns-clause-call
returns-clause-call c = refl

pub returns-clause-nested : goal.returns-clause-nested
returns-clause-nested c = refl

pub returns-clause-choice : goal.returns-clause-choice
returns-clause-choice c = refl

pub returns-clause-passed : goal.returns-clause-passed
returns-clause-passed c = refl

pub returns-clause-within : goal.returns-clause-within
returns-clause-within c = refl

pub returns-clause-last : goal.returns-clause-last
returns-clause-last c = refl

pub returns-clause-one_more : goal.returns-clause-one_more
returns-clause-one_more c = refl
