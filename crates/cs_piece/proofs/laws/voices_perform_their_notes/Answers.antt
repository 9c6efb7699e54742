use Rattle.cs_piece.proofs.Joined.{performs}
use Rattle.cs_piece.proofs.laws.voices_perform_their_notes.Goals as goal

pub returns : goal.returns
returns c = performs
