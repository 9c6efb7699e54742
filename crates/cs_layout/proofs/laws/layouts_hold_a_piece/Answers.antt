use Rattle.cs_layout.proofs.Complete.{is_placed}
use Rattle.cs_layout.proofs.laws.layouts_hold_a_piece.Goals as goal

pub returns : goal.returns
returns c = is_placed
