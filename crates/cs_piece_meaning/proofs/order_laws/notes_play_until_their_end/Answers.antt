use Rattle.cs_piece_meaning.proofs.Following.{comes, stays}
use Rattle.cs_piece_meaning.proofs.order_laws.notes_play_until_their_end.Goals as goal

pub returns-clause-stay : goal.returns-clause-stay
returns-clause-stay c = stays

pub returns-clause-come : goal.returns-clause-come
returns-clause-come c = comes
