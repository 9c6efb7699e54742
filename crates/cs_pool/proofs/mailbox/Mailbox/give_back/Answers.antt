use Rattle.std.proofs.Common.{◌∙◌, arith}
use Rattle.cs_pool.proofs.Exchanging.{has_slot, written, brings_back}
use Rattle.cs_pool.proofs.mailbox.Mailbox.give_back.Goals as goal

pub exchange-held-requires : goal.exchange-held-requires
exchange-held-requires g c = let d = c.requires.2 in (d.table, has_slot _ _ _ d.me)

pub store-requires : goal.store-requires
store-requires g c = (
  c.exchange-held.ensures.0 ∙ c.requires.2.table,
  omega (arith, c.args.self.now.sized.0),
  rw (written _ _ _ _ _ c.requires.2.me c.exchange-held.ensures.3)
      (brings_back g.J.Job.means _ _ _ _ c.requires.3),
)
