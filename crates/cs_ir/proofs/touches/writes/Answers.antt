use Rattle.std.proofs.Common.{rules}
use Rattle.cs_ir.proofs.touches.writes.Goals as goal

pub returns-in_default : goal.returns-in_default
returns-in_default c stock = search rules
