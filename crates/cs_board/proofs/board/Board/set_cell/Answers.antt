use Rattle.std.proofs.Common.{arith}
use Rattle.cs_board.specs.{Board.plan, inner.Sittings.deed}
use Rattle.cs_board.proofs.{Kept.sets_cell, Conflicts.used_within, Conflicts.written_used_at}
use Rattle.cs_board.proofs.board.Board.set_cell.Goals as goal

pub store-requires : goal.store-requires
store-requires g c =
    let d = deed c.args.sitting.now.me.0 in
    let low = (used_within g.J.Job.means (plan c.args.self.now) c.requires.sitting.whole d.note c.args.addr
    (written_used_at g.J.Job.means (plan c.args.self.now) c.requires.sitting.whole d.note c.args.addr
    c.requires.writes)).0 in (
      c.requires.sitting.table,
      omega (arith, low, c.cell_word-word.ensures, c.args.self.now.built.words),
      rw c.cell_word-word.ensures (sets_cell g.J.Job.means (plan c.args.self.now) g.met.J.Job.frames
          c.args.self.now.frame.table.shared.table_id.slots c.args.sitting.now.id c.args.sitting.now.me
          c.requires.sitting.knows.plan c.requires.sitting.knows.live c.requires.sitting.knows.playing d
          c.requires.doing c.requires.held c.args.addr c.cast_unsigned.result c.requires.phase c.requires.writes),
    )
