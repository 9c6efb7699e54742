use Rattle.cs_play.proofs.Deciding.{wordless}
use Rattle.cs_play.proofs.laws.words_decide.Goals as goal

pub returns : goal.returns
returns g c = wordless _
