use Rattle.cs_compile.proofs.Calls.{calls_mean}
use Rattle.cs_compile.proofs.laws.pieces_mean_their_calls.Goals as goal

pub returns : goal.returns
returns g c = calls_mean _ c.expansion_means_calls.ensures.instruments c.trees_are_well_formed.ensures.well_formed
