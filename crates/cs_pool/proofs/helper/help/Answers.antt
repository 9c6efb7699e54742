use Rattle.std.proofs.Common.{subst, sym}
use Rattle.cs_pool.specs.Mailboxes.{IsFree}
use Rattle.cs_pool.proofs.helper.help.Goals as goal

pub serve-taken-requires : goal.serve-taken-requires
serve-taken-requires g c = subst (λ m. IsFree m c.loop.end) (sym c.deref-in-1.ensures) c.loop.invariant.2

pub loop-preserved-in-1 : goal.loop-preserved-in-1
loop-preserved-in-1 g c =
    (tt, tt, subst (λ m. IsFree m c.serve-taken.new.end) c.deref-in-1.ensures c.serve-taken.ensures)

pub loop-preserved : goal.loop-preserved
loop-preserved g c = (tt, tt, c.loop.invariant.2)
