use Rattle.cs_ugen.proofs.Units.{units}
use Rattle.cs_ugen.proofs.laws.units_meet_their_formulas.Goals as goal

pub returns : goal.returns
returns c = units
