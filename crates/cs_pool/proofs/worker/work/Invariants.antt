use Rattle.cs_board.specs.Board.{view, SameSeat}
use Rattle.cs_pool.specs.Working.{IsReady}
use Rattle.cs_pool.proofs.worker.work.Given as goal

abbrev pub invariant-loop : goal.invariant-loop
invariant-loop g l =
    (goal.iterator-loop g).can_next l.iterator' × (goal.iterator-loop g).is_finite l.iterator'
    × IsReady g.J.Job.means l.board l.seat × SameSeat (view l.fn.seat) (view l.seat)
