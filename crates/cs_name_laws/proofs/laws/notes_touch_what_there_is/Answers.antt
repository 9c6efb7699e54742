use Rattle.cs_name_laws.proofs.Touching.{touched}
use Rattle.cs_name_laws.proofs.laws.notes_touch_what_there_is.Goals as goal

pub returns : goal.returns
returns c = touched
