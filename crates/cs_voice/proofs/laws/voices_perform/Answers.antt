use Rattle.cs_voice.proofs.Voices.{performs}
use Rattle.cs_voice.proofs.laws.voices_perform.Goals as goal

pub returns : goal.returns
returns c = λ s d cells on h. performs s d on h cells
