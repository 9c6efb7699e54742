use Rattle.std.proofs.Common.{arith}
use Rattle.cs_board.specs.{Board.plan, inner.Sittings.seen}
use Rattle.cs_board.proofs.{Stepping.place_after, Stepping.view_seen, Stepping.told_seen, Kept.looks_at_status}
use Rattle.cs_board.proofs.board.Board.look_status.Goals as goal

pub load-requires : goal.load-requires
load-requires g c = (
  c.requires.sitting.table,
  omega (arith, c.status_word-word.ensures, c.requires.note, c.args.self.now.built.words),
  rw c.status_word-word.ensures
      (looks_at_status g.J.Job.means (plan c.args.self.now) g.met.J.Job.frames
      c.args.self.now.frame.table.shared.table_id.slots c.args.sitting.now.id c.args.sitting.now.me
      c.requires.sitting.knows.plan c.requires.sitting.knows.live c.requires.sitting.knows.playing c.args.note
      c.requires.note),
)

pub returns-clause-me : goal.returns-clause-me
returns-clause-me g c =
    told_seen (plan c.args.self.now) c.args.self.now.frame.table.shared.table_id.slots c.args.note c.load.result
    c.args.sitting.now.me c.load.new.seat.me c.requires.sitting.knows.plan
    (rw c.status_word-word.ensures at c.load.ensures.2)

pub returns-clause-sitting : goal.returns-clause-sitting
returns-clause-sitting g c =
    place_after g.J.Job.means c.args.self.now c.args.sitting.now c.load.new.seat
    (seen _ c.args.sitting.now.me.0 c.args.note) c.args.sitting.now.me.1 c.requires.sitting c.load.ensures.0
    (returns-clause-me g c)
    (view_seen g.J.Job.means (plan c.args.self.now) c.args.sitting.now.me.0 _ c.args.note c.requires.sitting.knows)
