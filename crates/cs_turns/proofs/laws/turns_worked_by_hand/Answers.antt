use Rattle.std.proofs.Common.{refl}
use Rattle.cs_turns.proofs.laws.turns_worked_by_hand.Goals as goal

pub returns : goal.returns
returns c = record { first = refl; second = refl; no_line = refl; places = refl }
