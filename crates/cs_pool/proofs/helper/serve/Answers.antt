use Rattle.std.proofs.Common.{subst}
use Rattle.std.specs.Arc.{arc_value}
use Rattle.cs_pool.specs.Working.{IsThrough}
use Rattle.cs_pool.proofs.helper.serve.Goals as goal

pub give_back-requires : goal.give_back-requires
give_back-requires g c =
    let task = c.in-Some.task in (
      arc_value task.board,
      task.seat,
      c.in-Some.ensures.some,
      subst (λ b. IsThrough g.J.Job.means b task.seat c.work.new.seat) c.deref.ensures c.work.ensures,
    )
