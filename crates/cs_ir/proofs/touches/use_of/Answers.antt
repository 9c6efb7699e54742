use Rattle.std.proofs.Common.{rules}
use Rattle.cs_ir.proofs.touches.use_of.Goals as goal

pub returns-in_default-2 : goal.returns-in_default-2
returns-in_default-2 c stock = search rules
