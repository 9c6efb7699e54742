use Rattle.std.proofs.lemmas.Grind.{common_steps}
use Rattle.std.proofs.Common.{arith}
use Rattle.cs_cells.proofs.Rows.{read_more, read_all}
use Rattle.cs_cells.proofs.bank.Bank.get_row.Goals as goal

pub loop-j-preserved : goal.loop-j-preserved
loop-j-preserved g c = grind (arith, common_steps, read_more)

pub returns-clause-row : goal.returns-clause-row
returns-clause-row g c = grind (arith, common_steps, read_all)
