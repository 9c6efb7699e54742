use Rattle.std.proofs.Common.{refl}
use Rattle.cs_udo.proofs.laws.opcodes_worked_by_hand.Goals as goal

pub returns-clause-twice : goal.returns-clause-twice
returns-clause-twice c = refl

pub returns-clause-nested : goal.returns-clause-nested
returns-clause-nested c = refl

pub returns-clause-plain : goal.returns-clause-plain
returns-clause-plain c = refl

pub returns-clause-count : goal.returns-clause-count
returns-clause-count c = refl

pub returns-clause-number : goal.returns-clause-number
returns-clause-number c = refl

pub returns-clause-kind : goal.returns-clause-kind
returns-clause-kind c = refl

pub returns-clause-uncalled : goal.returns-clause-uncalled
returns-clause-uncalled c = refl

pub returns-clause-outside : goal.returns-clause-outside
returns-clause-outside c = refl
