use Rattle.std.proofs.Common.{Err, ap}
use Rattle.cs_arguments.specs.Orders.{asked_in}
use Rattle.cs_play.proofs.NoPiece.{by_stop}
use Rattle.cs_play.proofs.preparing.load_for.Goals as goal
use Rattle.cs_source.specs.declared.loading.LoadFault.{LoadFault}

pub returns-in-Err-clause-unprepared : goal.returns-in-Err-clause-unprepared
returns-in-Err-clause-unprepared g c = λ words e.
    by_stop (g.F.Shelf.tells) words c.args.shelf.now c.load.new.shelf _ _ (asked_in c.args.order.now) e c.in-Err.stop _
    c.say_fault_of_load.ensures
    (λ r h. c.in-Err.ensures.refused r (ap (λ (s : LoadFault). Err s) h))
    (λ name h. c.in-Err.ensures.unread name (ap (λ (s : LoadFault). Err s) h))
    (λ h. c.in-Err.ensures.starved (ap (λ (s : LoadFault). Err s) h))
