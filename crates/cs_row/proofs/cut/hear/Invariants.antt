use Rattle.std.proofs.Common.{◌≤◌, length, take}
use Rattle.std.specs.List.{All}
use Rattle.cs_row.proofs.cut.hear.Given as goal

abbrev pub invariant-loop-job : goal.invariant-loop-job
invariant-loop-job g l = (l.job-index ≤ length l.jobs) × All (λ j. g.J.Job.means.valid j) (take l.job-index l.jobs)
