use Rattle.std.proofs.Common.{sym, subst}
use Rattle.cs_pool.proofs.Found.{still_out}
use Rattle.cs_pool.specs.Mailboxes.{HasSomethingOut, LooksFor}
use Rattle.cs_pool.proofs.line.Line.collect.Goals as goal

pub collect-requires : goal.collect-requires
collect-requires g c =
    subst (λ m. HasSomethingOut m c.args.self.now.end) (sym c.deref-mailbox.ensures) c.requires

pub returns-clause-busy : goal.returns-clause-busy
returns-clause-busy g c =
    still_out (subst (λ m. LooksFor g.J.Job.means m m c.args.self.now.end c.collect.new.end c.collect.result)
    c.deref-mailbox.ensures c.collect.ensures) c.requires
