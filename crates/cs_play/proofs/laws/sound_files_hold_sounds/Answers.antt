use Rattle.cs_play.proofs.Sounds.{file_is_sound, holds_front}
use Rattle.cs_play.proofs.laws.sound_files_hold_sounds.Goals as goal

pub returns-clause-ok : goal.returns-clause-ok
returns-clause-ok g c = λ words before now asked t held run e known holds loud.
    file_is_sound _ c.files_have_one_pair_of_texts.ensures words before now asked t e known held holds run loud

pub returns-clause-front : goal.returns-clause-front
returns-clause-front g c = λ words s before now asked t held run e known holds.
    holds_front _ c.files_have_one_pair_of_texts.ensures words before now asked t e known held holds
    c.early_stops_are_fronts.ensures s run
