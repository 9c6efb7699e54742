use Rattle.cs_piece_meaning.proofs.Full.{full_starts_none}
use Rattle.cs_piece_meaning.proofs.order_laws.full_cycles_start_none.Goals as goal

pub returns : goal.returns
returns c = full_starts_none
