use Rattle.std.proofs.Common.{None}
use Rattle.std.specs.Arc.{arc_value}
use Rattle.cs_pool.specs.{Mailboxes.LooksFor, inner.Lines.IsBusy}
use Rattle.cs_pool.proofs.line.Line.look.Given as goal

abbrev pub invariant-loop-look : goal.invariant-loop-look
invariant-loop-look g l = record {
  busy : IsBusy l.self;
  looked : LooksFor g.J.Job.means (arc_value l.fn.self.mailbox) (arc_value l.self.mailbox) l.fn.self.end l.self.end
      None;
}
