use Rattle.std.proofs.Common.{◌≡◌, ◌≤◌, ◌++◌, drop, length}
use Rattle.std.specs.Vec.{vec_capacity}
use Rattle.cs_board.specs.Resting.{IsSole, IsLaying, areas_in, known_in}
use Rattle.cs_desk.specs.inner.Resting.{plan_over}
use Rattle.cs_desk.proofs.open.lay_cycle.Given as goal

abbrev pub invariant-loop-edge : goal.invariant-loop-edge
invariant-loop-edge g l = record {
  low : l.edge ≤ length l.graph.edges;
  sole : IsSole l.table.shared.table_id l.seat;
  areas : areas_in l.seat ≡ areas_in l.initial.seat;
  laying : IsLaying (plan_over (areas_in l.initial.seat) (known_in l.initial.seat) l.graph l.jobs.items)
      (length l.jobs.items) l.edge (known_in l.seat);
}

abbrev pub invariant-loop-job : goal.invariant-loop-job
invariant-loop-job g l = record {
  jobs : l.jobs.items ++ drop (length l.jobs.items) l.fn.jobs.items ≡ l.fn.jobs.items;
  room : length l.fn.jobs.items ≤ vec_capacity l.jobs;
  sole : IsSole l.table.shared.table_id l.seat;
  areas : areas_in l.seat ≡ areas_in l.fn.seat;
  laying : IsLaying (plan_over (areas_in l.fn.seat) (known_in l.fn.seat) l.graph l.fn.jobs.items) (length l.jobs.items)
      (length l.graph.edges) (known_in l.seat);
}

abbrev pub decreases-loop-job : goal.decreases-loop-job
decreases-loop-job g l = goal.left-loop-job g l
