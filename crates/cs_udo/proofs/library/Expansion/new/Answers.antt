use Rattle.std.proofs.Common.{arith}
use Rattle.std.proofs.lemmas.Grind.{common_steps}
use Rattle.cs_udo.proofs.Places.{names_are}
use Rattle.cs_udo.proofs.library.Expansion.new.Goals as goal

pub new-requires : goal.new-requires
new-requires c = grind (arith, common_steps, names_are)
