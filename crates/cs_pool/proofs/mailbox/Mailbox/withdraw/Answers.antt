use Rattle.std.proofs.Common.{◌∙◌, arith}
use Rattle.cs_pool.proofs.Exchanging.{has_slot, withdraws}
use Rattle.cs_pool.proofs.mailbox.Mailbox.withdraw.Goals as goal

pub compare_exchange-found-requires : goal.compare_exchange-found-requires
compare_exchange-found-requires g c =
    let r = c.requires in
    (r.out.table, omega (arith, c.args.self.now.sized.0), rw r.out.me (withdraws g.J.Job.means _ _ _ _))

pub exchange-letter-requires : goal.exchange-letter-requires
exchange-letter-requires g c =
    let t = c.compare_exchange-found.ensures.2.0 c.if-found-ne-GIVEN.false in
    (c.compare_exchange-found.ensures.0 ∙ c.requires.out.table, has_slot _ _ _ t.1)
