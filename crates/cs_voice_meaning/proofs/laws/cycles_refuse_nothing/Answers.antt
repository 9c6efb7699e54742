use Rattle.cs_voice_meaning.proofs.Steady.{cycle_steady}
use Rattle.cs_voice_meaning.proofs.laws.cycles_refuse_nothing.Goals as goal

pub returns : goal.returns
returns c = cycle_steady
