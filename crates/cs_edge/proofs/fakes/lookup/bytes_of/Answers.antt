use Rattle.std.proofs.Common.{arith}
use Rattle.std.proofs.lemmas.Grind.{common_steps}
use Rattle.cs_edge.proofs.Places.{bytes_at_place, bytes_past}
use Rattle.cs_edge.proofs.fakes.lookup.bytes_of.Goals as goal

pub returns-then-place-files : goal.returns-then-place-files
returns-then-place-files c = grind (arith, common_steps, bytes_at_place)

pub returns-else-place-files : goal.returns-else-place-files
returns-else-place-files c = grind (arith, common_steps, bytes_past)
