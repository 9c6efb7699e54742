use Rattle.cs_crew_trial.proofs.Ascending.{AscendBelow}
use Rattle.cs_crew_trial.proofs.marked.foot_of.Given as goal

abbrev pub invariant-loop-place : goal.invariant-loop-place
invariant-loop-place l = AscendBelow l.places.items l.place
