use Rattle.cs_score.proofs.Sizes.{one_size}
use Rattle.cs_score.proofs.laws.tables_keep_one_size.Goals as goal

pub returns : goal.returns
returns c = one_size
