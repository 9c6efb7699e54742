use Rattle.cs_source.proofs.Pairs.{one_pair}
use Rattle.cs_source.proofs.laws.files_have_one_pair_of_texts.Goals as goal

pub returns : goal.returns
returns c = one_pair
