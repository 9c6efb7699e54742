use Rattle.std.proofs.Common.{refl}
use Rattle.cs_score.proofs.Counts.{no_numbers}
use Rattle.cs_score.proofs.kept.TableNumbers.new.Goals as goal

pub returns : goal.returns
returns c = no_numbers _ c.new.ensures.items refl
