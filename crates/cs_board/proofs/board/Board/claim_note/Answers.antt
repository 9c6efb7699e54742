use Rattle.std.proofs.Common.{arith}
use Rattle.cs_board.specs.{Board.plan, inner.Sittings.tried}
use Rattle.cs_board.proofs.{Stepping.place_after, Stepping.view_tried, Stepping.told_tried, Kept.claims}
use Rattle.cs_board.proofs.board.Board.claim_note.Goals as goal

pub compare_exchange-requires : goal.compare_exchange-requires
compare_exchange-requires g c = (
  c.requires.sitting.table,
  omega (arith, c.status_word-word.ensures, c.requires.note, c.args.self.now.built.words),
  rw c.status_word-word.ensures
      (claims g.J.Job.means (plan c.args.self.now) g.met.J.Job.frames c.args.self.now.frame.table.shared.table_id.slots
      c.args.sitting.now.id c.args.sitting.now.me c.requires.sitting.knows.plan c.requires.sitting.knows.live
      c.requires.sitting.knows.playing c.args.note c.requires.note c.requires.idle.doing c.requires.idle.closing
      c.requires.idle.moving),
)

pub returns-clause-me : goal.returns-clause-me
returns-clause-me g c =
    told_tried g.J.Job.means (plan c.args.self.now) c.args.self.now.frame.table.shared.table_id.slots c.args.note
    c.compare_exchange.result c.args.sitting.now.me c.compare_exchange.new.seat.me c.requires.sitting.knows.plan
    (rw c.status_word-word.ensures at c.compare_exchange.ensures.2)

pub returns-clause-sitting : goal.returns-clause-sitting
returns-clause-sitting g c =
    place_after g.J.Job.means c.args.self.now c.args.sitting.now c.compare_exchange.new.seat
    (tried g.J.Job.means _ c.args.sitting.now.me.0 c.args.note) c.args.sitting.now.me.1 c.requires.sitting
    c.compare_exchange.ensures.0 (returns-clause-me g c)
    (view_tried g.J.Job.means (plan c.args.self.now) c.args.sitting.now.me.0 _ c.args.note c.requires.sitting.knows)
