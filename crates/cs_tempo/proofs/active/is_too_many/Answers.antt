use Rattle.std.proofs.Common.{refl}
use Rattle.cs_tempo.proofs.active.is_too_many.Goals as goal

pub returns : goal.returns
returns c = refl
