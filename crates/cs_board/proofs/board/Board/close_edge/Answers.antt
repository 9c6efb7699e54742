use Rattle.std.proofs.Common.{arith}
use Rattle.cs_board.specs.{Board.plan, Views.shut}
use Rattle.cs_board.proofs.{Stepping.place_after, Stepping.view_shut, Stepping.told_shut, Kept.closes_edge}
use Rattle.std.proofs.lemmas.Option.{slice_get_within}
use Rattle.cs_board.proofs.board.Board.close_edge.Goals as goal

pub swap-requires : goal.swap-requires
swap-requires g c =
    let i = c.requires.closing in (
      c.requires.sitting.table,
      omega (
        arith,
        c.watch_word-word.ensures,
        slice_get_within _ c.args.edge _ c.requires.edge,
        c.args.self.now.built.words,
      ),
      rw c.watch_word-word.ensures (closes_edge g.J.Job.means (plan c.args.self.now) g.met.J.Job.frames
          c.args.self.now.frame.table.shared.table_id.slots c.args.sitting.now.id c.args.sitting.now.me
          c.requires.sitting.knows.plan c.requires.sitting.knows.live c.requires.sitting.knows.playing c.args.edge
          c.args.note c.args.watcher i.0 c.requires.edge i.1 c.requires.moving i.2.low i.2.first),
    )

pub returns-clause-me : goal.returns-clause-me
returns-clause-me g c =
    told_shut (plan c.args.self.now) c.args.self.now.frame.table.shared.table_id.slots c.args.edge c.args.note
    c.args.watcher c.swap.result c.args.sitting.now.me c.swap.new.seat.me c.requires.sitting.knows.plan c.requires.edge
    (rw c.watch_word-word.ensures at c.swap.ensures.2)

pub returns-clause-sitting : goal.returns-clause-sitting
returns-clause-sitting g c =
    place_after g.J.Job.means c.args.self.now c.args.sitting.now c.swap.new.seat
    (shut c.args.sitting.now.me.0 c.args.edge c.args.note c.args.watcher c.swap.result) c.args.sitting.now.me.1
    c.requires.sitting c.swap.ensures.0 (returns-clause-me g c)
    (view_shut (plan c.args.self.now) c.args.sitting.now.me.0 c.args.edge c.args.note c.args.watcher c.swap.result
    c.requires.sitting.knows)
