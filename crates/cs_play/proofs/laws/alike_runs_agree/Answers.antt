use Rattle.cs_play.proofs.TwoRuns.{alike, end_alike}
use Rattle.cs_play.proofs.laws.alike_runs_agree.Goals as goal

pub returns-clause-bytes : goal.returns-clause-bytes
returns-clause-bytes g c = alike _ _ c.texts_of_a_source_mean_one.ensures.one c.files_have_one_pair_of_texts.ensures

pub returns-clause-ends : goal.returns-clause-ends
returns-clause-ends g c =
    end_alike _ _ c.texts_of_a_source_mean_one.ensures.one c.files_have_one_pair_of_texts.ensures
    c.told_files_have_texts_or_lack_a_name.ensures.none
