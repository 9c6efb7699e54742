use Rattle.std.proofs.Common.{arith, min}
use Rattle.std.proofs.lemmas.Grind.{common_steps}
use Rattle.cs_udo.proofs.Weighed.{assigned_size}
use Rattle.cs_udo.proofs.tally.assigned.Goals as goal

pub returns : goal.returns
returns c = grind (arith, common_steps, assigned_size, min)
