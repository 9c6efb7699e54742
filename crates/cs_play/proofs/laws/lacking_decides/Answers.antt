use Rattle.cs_play.proofs.Deciding.{lacking}
use Rattle.cs_play.proofs.laws.lacking_decides.Goals as goal

pub returns : goal.returns
returns g c = lacking _ c.told_files_have_texts_or_lack_a_name.ensures.none
