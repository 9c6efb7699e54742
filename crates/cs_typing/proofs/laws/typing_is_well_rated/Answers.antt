use Rattle.cs_typing.proofs.WellRated.{orchestra_rated}
use Rattle.cs_typing.proofs.laws.typing_is_well_rated.Goals as goal

pub returns : goal.returns
returns c = orchestra_rated
