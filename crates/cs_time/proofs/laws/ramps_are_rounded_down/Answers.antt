use Rattle.cs_time.proofs.Floors.{no_less_than_nothing}
use Rattle.cs_time.proofs.laws.ramps_are_rounded_down.Goals as goal

pub returns : goal.returns
returns c = no_less_than_nothing
