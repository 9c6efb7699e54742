use Rattle.cs_piece_meaning.proofs.Counting.{none_lost}
use Rattle.cs_piece_meaning.proofs.order_laws.no_start_is_lost.Goals as goal

pub returns : goal.returns
returns c = none_lost
