use Rattle.cs_source.proofs.SmallFaults.{in_line_4}
use Rattle.cs_source.proofs.worked.lines_worked_by_hand.Goals as goal

pub returns : goal.returns
returns c = in_line_4
