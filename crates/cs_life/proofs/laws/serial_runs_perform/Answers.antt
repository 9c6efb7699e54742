use Rattle.cs_life.proofs.Performing.{footprints, layouts, runs_perform}
use Rattle.cs_life.proofs.laws.serial_runs_perform.Goals as goal

pub returns-clause-performed : goal.returns-clause-performed
returns-clause-performed c = runs_perform c.voices_perform.ensures

pub returns-clause-layouts : goal.returns-clause-layouts
returns-clause-layouts c = layouts

pub returns-clause-footprints : goal.returns-clause-footprints
returns-clause-footprints c = footprints

pub returns-clause-few : goal.returns-clause-few
returns-clause-few c = λ comp life voices cells m s. s.stand.few
