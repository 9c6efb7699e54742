use Rattle.std.proofs.Common.{arith, bytes_eq}
use Rattle.std.proofs.lemmas.Grind.{common_steps}
use Rattle.cs_edge.proofs.Places.{named_here}
use Rattle.cs_edge.proofs.fakes.lookup.place_in.Goals as goal

pub returns-then-eq : goal.returns-then-eq
returns-then-eq c = grind (arith, common_steps, bytes_eq, named_here)
