use Rattle.std.proofs.Common.{refl}
use Rattle.cs_tempo.specs.Pairing.{ending_stop, held}
use Rattle.cs_tempo.proofs.laws.pairings_worked_by_hand.Goals as goal

pub returns-clause-first : goal.returns-clause-first
unfolding ending_stop held
returns-clause-first c = refl

pub returns-clause-second : goal.returns-clause-second
unfolding ending_stop held
returns-clause-second c = refl

pub returns-clause-third : goal.returns-clause-third
unfolding ending_stop held
returns-clause-third c = refl
