use Rattle.std.proofs.Common.{refl}
use Rattle.cs_tempo.specs.Order.{in_order, put}
use Rattle.cs_tempo.proofs.laws.orders_worked_by_hand.Goals as goal

pub returns-clause-at_one_beat : goal.returns-clause-at_one_beat
unfolding in_order put
returns-clause-at_one_beat c = refl

pub returns-clause-by_beat : goal.returns-clause-by_beat
unfolding in_order put
returns-clause-by_beat c = refl

pub returns-clause-equal : goal.returns-clause-equal
unfolding in_order put
returns-clause-equal c = refl

pub returns-clause-without_turn : goal.returns-clause-without_turn
unfolding in_order put
returns-clause-without_turn c = refl
