use Rattle.cs_play.proofs.Sounds.{never_both, one_refusal, one_sound, sound_or_refusal}
use Rattle.cs_play.proofs.laws.texts_have_one_sound_or_refusal.Goals as goal

pub returns-clause-some : goal.returns-clause-some
returns-clause-some c = sound_or_refusal c.texts_of_a_source_mean_one.ensures.some
    c.texts_of_a_source_mean_one.ensures.head

pub returns-clause-one_sound : goal.returns-clause-one_sound
returns-clause-one_sound c = one_sound c.texts_of_a_source_mean_one.ensures.one

pub returns-clause-one_refusal : goal.returns-clause-one_refusal
returns-clause-one_refusal c = one_refusal c.texts_of_a_source_mean_one.ensures.one

pub returns-clause-never_both : goal.returns-clause-never_both
returns-clause-never_both c = never_both c.texts_of_a_source_mean_one.ensures.one
