use Rattle.std.proofs.Common.{arith}
use Rattle.cs_pool.proofs.Exchanging.{ends}
use Rattle.cs_pool.proofs.mailbox.Mailbox.end.Goals as goal

pub store-requires : goal.store-requires
store-requires g c =
    (c.requires.table, omega (arith, c.args.self.now.sized.0), rw c.requires.me (ends g.J.Job.means _ _ _ _))
