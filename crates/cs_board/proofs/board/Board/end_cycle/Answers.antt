use Rattle.std.proofs.Common.{arith}
use Rattle.cs_board.proofs.Rests.{ends_cycle}
use Rattle.cs_board.proofs.board.Board.end_cycle.Goals as goal

pub load-requires : goal.load-requires
load-requires g c = (
  c.requires.table,
  omega (arith, c.args.self.now.built.words),
  ends_cycle g.J.Job.means g.met.J.Job.frames c.args.self.now.frame.table.shared.table_id.slots c.args.seat.now.id
      c.args.seat.now.me c.requires.knows.live c.requires.last,
)
