use Rattle.std.proofs.lemmas.{Grind.common_steps, List.length-map}
use Rattle.std.proofs.Common.{arith}
use Rattle.cs_udo.proofs.{Faulted.after_both, Places.dropped, Places.at_place, Places.opcodes_more}
use Rattle.cs_udo.proofs.refuse.after_definitions.Goals as goal

pub loop-i-preserved : goal.loop-i-preserved
loop-i-preserved c = grind (arith, common_steps, after_both, at_place, dropped, length-map, opcodes_more)
