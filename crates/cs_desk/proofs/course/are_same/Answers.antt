use Rattle.std.proofs.lemmas.{Grind.common_steps, List.get_or_read, List.take_more_same}
use Rattle.std.proofs.Common.{arith}
use Rattle.cs_desk.proofs.course.are_same.Goals as goal

pub loop-i-preserved : goal.loop-i-preserved
loop-i-preserved c = grind (arith, common_steps, get_or_read, take_more_same)
