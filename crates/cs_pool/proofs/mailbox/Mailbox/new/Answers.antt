use Rattle.std.proofs.Common.{arith}
use Rattle.cs_pool.proofs.Exchanging.{fetches}
use Rattle.cs_pool.proofs.mailbox.Mailbox.new.Goals as goal

pub load-requires : goal.load-requires
load-requires g c =
    let o = c.in-Ok.ensures.ok in (o.2, omega (arith, o.0), rw o.4 (fetches g.J.Job.means _ _))
