use Rattle.cs_piece_meaning.proofs.Waits.{none_waits}
use Rattle.cs_piece_meaning.proofs.order_laws.none_waits_beyond_its_cycle.Goals as goal

pub returns : goal.returns
returns c = none_waits
