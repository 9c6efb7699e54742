use Rattle.cs_crew_trial.specs.Playing.{IsPlayer}
use Rattle.cs_crew_trial.proofs.player.tries_by.Given as goal

abbrev pub invariant-loop : goal.invariant-loop
invariant-loop g l = IsPlayer g.J.Job.means l.board l.first × IsPlayer g.J.Job.means l.board l.second
