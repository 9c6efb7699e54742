use Rattle.cs_score.proofs.Comments.{by_pieces}
use Rattle.cs_score.proofs.laws.comments_are_spaces.Goals as goal

pub returns : goal.returns
returns c = by_pieces
