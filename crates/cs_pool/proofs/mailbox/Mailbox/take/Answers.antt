use Rattle.std.proofs.Common.{◌∙◌, arith}
use Rattle.cs_pool.proofs.Exchanging.{has_slot, takes_task}
use Rattle.cs_pool.proofs.mailbox.Mailbox.take.Goals as goal

pub compare_exchange-found-requires : goal.compare_exchange-found-requires
compare_exchange-found-requires g c =
    (c.requires.table, omega (arith, c.args.self.now.sized.0), rw c.requires.me (takes_task g.J.Job.means _ _))

pub exchange-letter-requires : goal.exchange-letter-requires
exchange-letter-requires g c =
    let t = c.compare_exchange-found.ensures.2.0 c.if-found-ne-GIVEN.false in
    (c.compare_exchange-found.ensures.0 ∙ c.requires.table, has_slot _ _ _ t.1)
