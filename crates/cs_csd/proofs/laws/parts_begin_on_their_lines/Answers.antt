use Rattle.cs_csd.proofs.PartLines.{parts_begin}
use Rattle.cs_csd.proofs.laws.parts_begin_on_their_lines.Goals as goal

pub returns : goal.returns
returns c = parts_begin
