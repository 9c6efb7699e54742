use Rattle.std.proofs.Common.{rules}
use Rattle.cs_compile.proofs.piece.is_too_long.Goals as goal

pub returns : goal.returns
returns c = search rules
