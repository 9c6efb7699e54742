use Rattle.std.proofs.Common.{refl}
use Rattle.cs_udo_meaning.proofs.laws.calls_worked_by_hand.Goals as goal

pub returns-clause-twice : goal.returns-clause-twice
returns-clause-twice c = refl

pub returns-clause-two_counters : goal.returns-clause-two_counters
returns-clause-two_counters c = refl

pub returns-clause-copies : goal.returns-clause-copies
returns-clause-copies c = refl

pub returns-clause-results : goal.returns-clause-results
returns-clause-results c = refl

pub returns-clause-in_an_if : goal.returns-clause-in_an_if
returns-clause-in_an_if c = refl

pub returns-clause-nested : goal.returns-clause-nested
returns-clause-nested c = refl

pub returns-clause-framed : goal.returns-clause-framed
returns-clause-framed c = refl

pub returns-clause-states : goal.returns-clause-states
returns-clause-states c = refl

pub returns-clause-init : goal.returns-clause-init
returns-clause-init c = refl

pub returns-clause-keeping : goal.returns-clause-keeping
returns-clause-keeping c = refl
