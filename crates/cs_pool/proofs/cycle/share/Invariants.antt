use Rattle.std.specs.Arc.{arc_value}
use Rattle.cs_board.specs.Board.{view}
use Rattle.cs_pool.proofs.Parts.{AreTakenIn}
use Rattle.cs_pool.proofs.cycle.share.Given as goal

abbrev pub invariant-loop-left : goal.invariant-loop-left
invariant-loop-left g l = AreTakenIn g.J.Job.means (arc_value l.board) (view l.fn.first).made l.left l.parts l.fn.lines
    l.lines l.first l.begun

abbrev pub decreases-loop-left : goal.decreases-loop-left
decreases-loop-left g l = l.left
