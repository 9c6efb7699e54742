use Rattle.std.proofs.lemmas.{Grind.common_steps, Int.to_z-of_z}
use Rattle.std.proofs.Common.{arith, w64}
use Rattle.cs_board.specs.{Board.plan, inner.Sittings.deed}
use Rattle.cs_board.proofs.{Kept.looks, Conflicts.used_within}
use Rattle.cs_board.proofs.board.Board.look_cell.Goals as goal

pub load-found-requires : goal.load-found-requires
load-found-requires g c =
    let low = (used_within g.J.Job.means (plan c.args.self.now) c.requires.sitting.whole
    (deed c.args.sitting.now.me.0).note c.args.addr c.requires.used).0 in (
      c.requires.sitting.table,
      omega (arith, low, c.cell_word-word.ensures, c.args.self.now.built.words),
      rw c.cell_word-word.ensures (looks g.J.Job.means (plan c.args.self.now) g.met.J.Job.frames
          c.args.self.now.frame.table.shared.table_id.slots
          c.args.sitting.now.id c.args.sitting.now.me c.requires.sitting.knows.plan c.requires.sitting.knows.live
          c.requires.sitting.knows.playing c.args.addr),
    )

pub returns-clause-value : goal.returns-clause-value
returns-clause-value g c = grind (arith, common_steps, to_z-of_z, used_within, w64)
