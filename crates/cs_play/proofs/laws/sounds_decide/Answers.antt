use Rattle.cs_play.proofs.Deciding.{sounds}
use Rattle.cs_play.proofs.laws.sounds_decide.Goals as goal

pub returns : goal.returns
returns g c =
    sounds _ c.texts_of_a_source_mean_one.ensures.one c.files_have_one_pair_of_texts.ensures
    c.told_files_have_texts_or_lack_a_name.ensures.none
