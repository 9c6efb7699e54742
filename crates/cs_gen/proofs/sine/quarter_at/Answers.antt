use Rattle.cs_gen.specs.Points.{quarter}
use Rattle.cs_gen.proofs.Quarter.{quarter_low}
use Rattle.cs_gen.proofs.sine.quarter_at.Goals as goal

pub returns-clause-low : goal.returns-clause-low
unfolding quarter
returns-clause-low c = quarter_low c.args.place
