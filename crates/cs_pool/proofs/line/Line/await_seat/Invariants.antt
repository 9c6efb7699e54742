use Rattle.std.proofs.Common.{None}
use Rattle.std.specs.Arc.{arc_value}
use Rattle.cs_pool.specs.{Mailboxes.LooksFor, inner.Lines.IsBusy}
use Rattle.cs_pool.proofs.line.Line.await_seat.Given as goal

abbrev pub invariant-loop : goal.invariant-loop
invariant-loop g l =
    (goal.iterator-loop g).can_next l.iterator' × (goal.iterator-loop g).is_finite l.iterator' × IsBusy l.self
    × LooksFor g.J.Job.means (arc_value l.fn.self.mailbox) (arc_value l.self.mailbox) l.fn.self.end l.self.end None
