use Rattle.cs_turns.proofs.Levels.{turns_are}
use Rattle.cs_turns.proofs.laws.turns_are_levels.Goals as goal

pub returns : goal.returns
returns c = turns_are
