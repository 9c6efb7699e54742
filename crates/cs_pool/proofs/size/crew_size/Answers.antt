use Rattle.std.proofs.Common.{rules}
use Rattle.cs_pool.proofs.size.crew_size.Goals as goal

pub returns : goal.returns
returns g c = search rules
