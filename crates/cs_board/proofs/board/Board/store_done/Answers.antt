use Rattle.std.proofs.Common.{refl, sym, ap, ◌∙◌, arith}
use Rattle.cs_board.specs.{Words.status_at, Board.plan, Board.run_through, Views.ended}
use Rattle.cs_board.proofs.{Stepping.place_after, Stepping.view_ended, Kept.finishes}
use Rattle.cs_board.proofs.board.Board.store_done.Goals as goal

pub store-requires : goal.store-requires
store-requires g c = (
  c.requires.sitting.table,
  omega (arith, c.status_word-word.ensures, c.requires.note, c.args.self.now.built.words),
  rw c.status_word-word.ensures
      (finishes g.J.Job.means (plan c.args.self.now) g.met.J.Job.frames
      c.args.self.now.frame.table.shared.table_id.slots
      c.args.sitting.now.id c.args.sitting.now.me c.requires.sitting.knows.plan c.requires.sitting.knows.live
      c.requires.sitting.knows.playing (run_through g.J.Job.means (plan c.args.self.now) c.args.note) c.requires.doing
      refl refl),
)

pub returns-clause-me : goal.returns-clause-me
returns-clause-me g c = c.store.ensures.2 c.args.note
    (c.status_word-word.ensures ∙ ap (λ z. status_at z c.args.note) (sym c.requires.sitting.knows.plan))

pub returns-clause-sitting : goal.returns-clause-sitting
returns-clause-sitting g c =
    place_after g.J.Job.means c.args.self.now c.args.sitting.now c.store.new.seat
    (ended c.args.sitting.now.me.0 c.args.note) c.args.sitting.now.me.1 c.requires.sitting c.store.ensures.0
    (returns-clause-me g c)
    (view_ended (plan c.args.self.now) c.args.sitting.now.me.0 c.args.note c.requires.sitting.knows)
