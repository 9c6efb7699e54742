use Rattle.std.proofs.Common.{◌≡◌, length}
use Rattle.cs_crew_trial.proofs.Numbered.{Numbered}
use Rattle.cs_crew_trial.proofs.marked.areas.Given as goal

abbrev pub invariant-loop-place : goal.invariant-loop-place
invariant-loop-place l = record { numbered : Numbered l.areas.items l.place; long : length l.areas.items ≡ l.place }
