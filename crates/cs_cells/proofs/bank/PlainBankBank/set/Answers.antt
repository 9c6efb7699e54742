use Rattle.std.proofs.Common.{arith, w64, of_z}
use Rattle.std.proofs.lemmas.{Grind.common_steps, List.map-set, Int.to_z-of_z}
use Rattle.cs_base.proofs.Arithmetic.{clamp_same}
use Rattle.cs_cells.proofs.bank.PlainBankBank.set.Goals as goal

pub returns-clause-cells : goal.returns-clause-cells
returns-clause-cells c = grind (arith, common_steps, clamp_same, map-set, of_z, to_z-of_z, w64)
