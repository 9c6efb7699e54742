use Rattle.std.proofs.lemmas.{Grind.common_steps, List.length-take-le}
use Rattle.std.proofs.Common.{arith}
use Rattle.cs_udo.proofs.{Places.opcodes_here, Priced.none_counted, Priced.statements_are}
use Rattle.cs_udo.proofs.tally.statements_hit.Goals as goal

pub returns : goal.returns
returns c = grind (arith, common_steps, length-take-le, none_counted, opcodes_here, statements_are)
