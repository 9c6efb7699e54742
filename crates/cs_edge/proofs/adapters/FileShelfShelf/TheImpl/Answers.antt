use Rattle.std.proofs.Common.{arith}
use Rattle.std.proofs.lemmas.Grind.{common_steps}
use Rattle.cs_edge.proofs.Chains.{if_any}
use Rattle.cs_edge.proofs.adapters.FileShelfShelf.TheImpl.Goals as goal

-- nothing is told about bytes
pub read-tells : goal.read-tells
read-tells g c = grind (arith, common_steps, if_any)

pub begin-tells : goal.begin-tells
begin-tells g c = grind (arith, common_steps, if_any)
