use Rattle.std.proofs.Common.{refl}
use Rattle.cs_piece_meaning.proofs.Asked.{asked, both_started}
use Rattle.cs_piece_meaning.proofs.laws.performances_worked_by_hand.Goals as goal

pub returns-clause-asked : goal.returns-clause-asked
returns-clause-asked c = asked

pub returns-clause-both_started : goal.returns-clause-both_started
returns-clause-both_started c = both_started

pub returns-clause-by_number : goal.returns-clause-by_number
returns-clause-by_number c = refl

pub returns-clause-turned_off : goal.returns-clause-turned_off
returns-clause-turned_off c = refl

pub returns-clause-plain_sum : goal.returns-clause-plain_sum
returns-clause-plain_sum c = refl

pub returns-clause-not_started : goal.returns-clause-not_started
returns-clause-not_started c = refl
