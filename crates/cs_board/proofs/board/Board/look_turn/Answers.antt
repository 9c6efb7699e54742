use Rattle.std.proofs.Common.{arith}
use Rattle.cs_board.specs.Board.{plan}
use Rattle.cs_board.proofs.Kept.{looks_at_turn}
use Rattle.cs_board.proofs.board.Board.look_turn.Goals as goal

pub load-requires : goal.load-requires
load-requires g c = (
  c.requires.sitting.table,
  omega (arith, c.turn_word-word.ensures, c.requires.area, c.args.self.now.built.words),
  rw c.turn_word-word.ensures
      (looks_at_turn g.J.Job.means (plan c.args.self.now) g.met.J.Job.frames
      c.args.self.now.frame.table.shared.table_id.slots c.args.sitting.now.id c.args.sitting.now.me
      c.requires.sitting.knows.plan c.requires.sitting.knows.live c.requires.sitting.knows.playing c.args.area),
)
