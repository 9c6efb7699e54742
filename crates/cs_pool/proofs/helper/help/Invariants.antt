use Rattle.std.specs.Arc.{arc_value}
use Rattle.cs_pool.specs.Mailboxes.{IsFree}
use Rattle.cs_pool.proofs.helper.help.Given as goal

abbrev pub invariant-loop : goal.invariant-loop
invariant-loop g l =
    (goal.iterator-loop g).can_next l.iterator' × (goal.iterator-loop g).is_finite l.iterator'
    × IsFree (arc_value l.mailbox) l.end
