use Rattle.cs_piece_meaning.proofs.Started.{cycle_starts, one_moment}
use Rattle.cs_piece_meaning.proofs.order_laws.waiting_notes_start_in_order.Goals as goal

pub returns-clause-rule : goal.returns-clause-rule
returns-clause-rule c = cycle_starts

pub returns-clause-one : goal.returns-clause-one
returns-clause-one c = λ piece now m a b x y. one_moment piece now x y
