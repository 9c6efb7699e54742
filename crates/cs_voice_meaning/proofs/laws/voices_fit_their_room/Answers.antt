use Rattle.cs_voice_meaning.proofs.Fitting.{begins_fitting, goes_on_fitting}
use Rattle.cs_voice_meaning.proofs.laws.voices_fit_their_room.Goals as goal

pub returns-clause-begins : goal.returns-clause-begins
returns-clause-begins c = begins_fitting

pub returns-clause-goes_on : goal.returns-clause-goes_on
returns-clause-goes_on c = goes_on_fitting
