use Rattle.std.proofs.Common.{◌≡◌, ◌≤◌, length, map, take}
use Rattle.std.specs.Vec.{vec_capacity}
use Rattle.cs_desk.proofs.course.feet_of.Given as goal

abbrev pub invariant-loop-job : goal.invariant-loop-job
invariant-loop-job g l =
    (l.job-index ≤ length l.jobs) × (l.feet.items ≡ map g.J.Job.means.foot (take l.job-index l.jobs))
    × (length l.jobs ≤ vec_capacity l.feet)
