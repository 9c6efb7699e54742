use Rattle.std.proofs.Common.{arith}
use Rattle.std.proofs.lemmas.Grind.{common_steps}
use Rattle.cs_edge.proofs.Chains.{err_any, if_any, ok_any}
use Rattle.cs_edge.proofs.adapters.FileSinkSink.TheImpl.Goals as goal

-- nothing is told about bytes
pub write-tells : goal.write-tells
write-tells g c = grind (arith, common_steps, err_any, if_any)

pub end-tells : goal.end-tells
end-tells g c =
    record { ended = ok_any c.result tt; failed = err_any c.result tt; cause = c.ensures.cause; moves = tt }

pub begin-tells : goal.begin-tells
begin-tells g c =
    record { begun = ok_any c.result tt; failed = err_any c.result tt; cause = c.ensures.cause; moves = tt }
