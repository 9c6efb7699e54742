use Rattle.cs_piece_meaning.proofs.Few.{few_starts}
use Rattle.cs_piece_meaning.proofs.order_laws.starts_are_few.Goals as goal

pub returns : goal.returns
returns c = few_starts
