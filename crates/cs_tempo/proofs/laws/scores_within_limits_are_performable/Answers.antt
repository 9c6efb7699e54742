use Rattle.cs_tempo.proofs.Performable.{performable}
use Rattle.cs_tempo.proofs.laws.scores_within_limits_are_performable.Goals as goal

pub returns : goal.returns
returns c = performable
