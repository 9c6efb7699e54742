use Rattle.std.proofs.Common.{sym, ap, arith, le-leb}
use Rattle.cs_board.specs.{Board.plan, inner.Sittings.deed, inner.Sittings.ran_out, Facts.job_if, Plans.before_at}
use Rattle.cs_board.proofs.Kept.{gives_job}
use Rattle.cs_board.proofs.board.Board.leave_job.Goals as goal

pub load-requires : goal.load-requires
load-requires g c =
    let j = c.requires.job in
    let d = ran_out g.J.Job.means (plan c.args.self.now) c.args.note (deed c.args.sitting.now.me.0).phase in (
      c.requires.sitting.table,
      omega (arith, c.args.self.now.built.words, c.args.self.now.built.notes),
      gives_job g.J.Job.means (plan c.args.self.now) g.met.J.Job.frames
          c.args.self.now.frame.table.shared.table_id.slots c.args.sitting.now.id c.args.sitting.now.me
          c.requires.sitting.knows.plan c.requires.sitting.knows.live c.requires.sitting.knows.playing d
          c.requires.doing
          j.0 (g.J.Job.means.after j.0 (before_at g.J.Job.means (plan c.args.self.now) c.args.note)) j.2 j.1
          (ap (λ b. job_if g.J.Job.means (plan c.args.self.now) b c.args.note j.0)
          (sym (le-leb 1 (deed c.args.sitting.now.me.0).phase c.requires.phase))),
    )
