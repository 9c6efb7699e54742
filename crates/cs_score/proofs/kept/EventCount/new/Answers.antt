use Rattle.std.proofs.Common.{refl, None}
use Rattle.cs_score.proofs.Counts.{no_count}
use Rattle.cs_score.proofs.kept.EventCount.new.Goals as goal

pub returns : goal.returns
returns c = no_count (record { count = 0; hit = None }) refl refl
