use Rattle.std.proofs.Common.{◌≡◌, ◌≤◌, ◌<◌, ℕ, slice_get, Some}
use Rattle.cs_desk.proofs.open.hear.Given as goal

abbrev pub invariant-loop-job : goal.invariant-loop-job
invariant-loop-job g l =
    (l.job-index ≤ l.job-index-end)
    × ((t : ℕ) (j : g.row.J.Denot) → t < l.job-index → slice_get l.jobs t ≡ Some j → g.J.Job.means.valid j)
