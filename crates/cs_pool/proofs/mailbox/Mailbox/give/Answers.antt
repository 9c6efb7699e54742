use Rattle.std.proofs.Common.{◌∙◌, arith}
use Rattle.cs_pool.proofs.Exchanging.{has_slot, written, hands_out}
use Rattle.cs_pool.proofs.mailbox.Mailbox.give.Goals as goal

pub exchange-held-requires : goal.exchange-held-requires
exchange-held-requires g c = (c.requires.end.table, has_slot _ _ _ c.requires.end.me)

pub store-requires-2 : goal.store-requires-2
store-requires-2 g c = (
  c.exchange-held.ensures.0 ∙ c.requires.end.table,
  omega (arith, c.args.self.now.sized.0),
  rw (written _ _ _ _ _ c.requires.end.me c.exchange-held.ensures.3) (hands_out g.J.Job.means _ _ _ _ c.requires.task),
)
