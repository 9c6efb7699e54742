use Rattle.std.proofs.lemmas.{Grind.common_steps, Int.ints}
use Rattle.std.proofs.Common.{arith, max, nat_abs, to_z, of_z, w64}
use Rattle.cs_edge.proofs.Lines.{peak_more, told_more}
use Rattle.cs_edge.proofs.peak.PeakTapTap.take.Goals as goal

pub loop-z-preserved : goal.loop-z-preserved
loop-z-preserved c h e = grind (arith, common_steps, ints, max, nat_abs, of_z, peak_more, to_z, told_more, w64)
