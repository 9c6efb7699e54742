use Rattle.cs_piece_meaning.proofs.Standing.{in_order, same_notes}
use Rattle.cs_piece_meaning.proofs.order_laws.notes_of_a_cycle_are_in_order.Goals as goal

pub returns-clause-before : goal.returns-clause-before
returns-clause-before c = in_order

pub returns-clause-after : goal.returns-clause-after
returns-clause-after c = same_notes
