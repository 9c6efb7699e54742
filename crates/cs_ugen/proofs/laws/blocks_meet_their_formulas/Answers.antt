use Rattle.cs_signal.proofs.Blocks.{by_formula}
use Rattle.cs_ugen.proofs.Units.{units}
use Rattle.cs_ugen.proofs.laws.blocks_meet_their_formulas.Goals as goal

pub returns : goal.returns
returns c = λ o is. by_formula (units o is)
