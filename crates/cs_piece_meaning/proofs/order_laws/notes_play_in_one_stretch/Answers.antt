use Rattle.cs_piece_meaning.proofs.Following.{one_stretch}
use Rattle.cs_piece_meaning.proofs.order_laws.notes_play_in_one_stretch.Goals as goal

pub returns : goal.returns
returns c = one_stretch
