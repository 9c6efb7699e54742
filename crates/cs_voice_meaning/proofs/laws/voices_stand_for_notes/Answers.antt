use Rattle.cs_voice_meaning.proofs.Notes.{do_alike}
use Rattle.cs_voice_meaning.proofs.laws.voices_stand_for_notes.Goals as goal

pub returns : goal.returns
returns c = do_alike
