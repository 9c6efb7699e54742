use Rattle.std.proofs.Common.{refl, arith}
use Rattle.cs_board.specs.{Board.plan, inner.Sittings.ran_out}
use Rattle.cs_board.proofs.Kept.{turns_own}
use Rattle.cs_board.proofs.board.Board.turn_own.Goals as goal

pub store-requires : goal.store-requires
store-requires g c = (
  c.requires.sitting.table,
  omega (arith, c.own_word-word.ensures, c.requires.note, c.args.self.now.built.words),
  rw c.own_word-word.ensures
      (turns_own g.J.Job.means (plan c.args.self.now) g.met.J.Job.frames
      c.args.self.now.frame.table.shared.table_id.slots
      c.args.sitting.now.id c.args.sitting.now.me c.requires.sitting.knows.plan c.requires.sitting.knows.live
      c.requires.sitting.knows.playing (ran_out g.J.Job.means (plan c.args.self.now) c.args.note 0) c.requires.doing
      refl refl refl),
)
