use Rattle.cs_edge.proofs.{Buffered.all_sent, Chains.ok_then}
use Rattle.cs_edge.proofs.line_buffer.add_and_send.Goals as goal

pub returns-clause-written : goal.returns-clause-written
returns-clause-written g c =
    ok_then c.send.result c.send.ensures.written (λ written. all_sent _ _ _ _ _ _ c.in_ok-add.ensures.taken written)
