use Rattle.cs_board.specs.Resting.{known_in}
use Rattle.cs_desk.proofs.Sole.{sole_knows}
use Rattle.cs_board.proofs.Rests.{reads_word}
use Rattle.cs_desk.proofs.resting.read.Goals as goal

pub load-requires : goal.load-requires
load-requires g c = (
  c.requires.sole.table,
  c.requires.word,
  reads_word g.J.Job.means c.args.table.now.shared.table_id.slots c.args.seat.now.id c.args.seat.now.me
      c.requires.sole.live (known_in c.args.seat.now)
      (sole_knows c.args.table.now.shared.table_id c.args.seat.now c.requires.sole) c.args.word,
)
