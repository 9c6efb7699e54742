use Rattle.std.proofs.Common.{◌≡◌, length}
use Rattle.std.specs.List.{All}
use Rattle.cs_crew_trial.specs.Marks.{IsOver, marking}
use Rattle.cs_crew_trial.proofs.marked.jobs_of.Given as goal

abbrev pub invariant-loop-at : goal.invariant-loop-at
invariant-loop-at l = record { over : All (IsOver marking l.layout) l.jobs.items; long : length l.jobs.items ≡ l.at }
