use Rattle.cs_piece.proofs.Ascending.{tables_rise}
use Rattle.cs_piece.proofs.laws.tables_are_in_order.Goals as goal

pub returns : goal.returns
returns c = tables_rise
