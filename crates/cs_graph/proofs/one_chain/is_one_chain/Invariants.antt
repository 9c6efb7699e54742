use Rattle.std.proofs.Common.{map, ℕ, ◌+◌, ◌<◌}
use Rattle.cs_graph.specs.Conflict.{Conflict}
use Rattle.cs_graph.proofs.one_chain.is_one_chain.Given as goal

abbrev pub invariant-loop-later : goal.invariant-loop-later
invariant-loop-later g l = (t : ℕ) → t + 1 < l.later → Conflict (map g.J.Job.means.foot l.jobs) t (t + 1)
