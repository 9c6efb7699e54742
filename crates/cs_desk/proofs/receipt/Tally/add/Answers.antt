use Rattle.std.proofs.Common.{refl}
use Rattle.cs_desk.proofs.receipt.Tally.add.Goals as goal

pub returns-clause-cycles : goal.returns-clause-cycles
returns-clause-cycles g c = refl
