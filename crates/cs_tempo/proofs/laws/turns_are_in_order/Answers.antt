use Rattle.cs_tempo.proofs.Stable.{equal_keep_order, in_order_rises}
use Rattle.cs_tempo.proofs.laws.turns_are_in_order.Goals as goal

pub returns-clause-rising : goal.returns-clause-rising
returns-clause-rising c = in_order_rises

pub returns-clause-equal : goal.returns-clause-equal
returns-clause-equal c = equal_keep_order
