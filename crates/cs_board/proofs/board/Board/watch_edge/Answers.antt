use Rattle.std.proofs.lemmas.Option.{slice_get_within}
use Rattle.std.proofs.Common.{arith}
use Rattle.cs_board.specs.{Board.plan, inner.Sittings.stopped}
use Rattle.cs_board.proofs.{Stepping.place_after, Stepping.view_stopped, Stepping.told_stopped, Kept.watches_edge}
use Rattle.cs_board.proofs.board.Board.watch_edge.Goals as goal

pub compare_exchange-requires : goal.compare_exchange-requires
compare_exchange-requires g c =
    let m = c.requires.moving in (
      c.requires.sitting.table,
      omega (arith, c.watch_word-word.ensures, slice_get_within _ c.args.edge _ m.edge.1, c.args.self.now.built.words),
      rw c.watch_word-word.ensures (watches_edge g.J.Job.means (plan c.args.self.now) g.met.J.Job.frames
          c.args.self.now.frame.table.shared.table_id.slots c.args.sitting.now.id c.args.sitting.now.me
          c.requires.sitting.knows.plan c.requires.sitting.knows.live c.requires.sitting.knows.playing c.args.edge
          m.edge.0 c.args.note m.from m.edge.1 m.moving m.low m.first),
    )

pub returns-clause-me : goal.returns-clause-me
returns-clause-me g c =
    told_stopped (plan c.args.self.now) c.args.self.now.frame.table.shared.table_id.slots c.args.edge
    c.requires.moving.edge.0 c.args.note c.compare_exchange.result c.args.sitting.now.me
    c.compare_exchange.new.seat.me c.requires.sitting.knows.plan c.requires.moving.edge.1
    (rw c.watch_word-word.ensures at c.compare_exchange.ensures.2)

pub returns-clause-sitting : goal.returns-clause-sitting
returns-clause-sitting g c =
    place_after g.J.Job.means c.args.self.now c.args.sitting.now c.compare_exchange.new.seat
    (stopped _ c.args.sitting.now.me.0 c.args.note c.args.edge) c.args.sitting.now.me.1 c.requires.sitting
    c.compare_exchange.ensures.0 (returns-clause-me g c)
    (view_stopped (plan c.args.self.now) c.args.sitting.now.me.0 _ c.args.note c.args.edge c.requires.sitting.knows)
