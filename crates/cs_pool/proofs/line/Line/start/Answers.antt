use denote.Param.Send.{sendable}
use Rattle.crossbeam_utils.proofs.sync.parker.RuledParker.TheSendSync as parker
use Rattle.std.proofs.Crossing.{crosses}
use Rattle.std.proofs.alloc.Global.TheSendSync as heap
use Rattle.cs_pool.proofs.Shared.{mailbox_send, mailbox_sync, end_send}
use Rattle.cs_pool.proofs.line.Line.start.Goals as goal

-- what moves to the helper's thread: its end of the mailbox, a share of the mailbox, and the object on which
-- it sleeps
pub spawn_scoped-requires-send-F : goal.spawn_scoped-requires-send-F
spawn_scoped-requires-send-F g c κs within =
    search (sendable, crosses, parker.the_send, heap.the_send, heap.the_sync, mailbox_send, mailbox_sync, end_send)
    depth 40
