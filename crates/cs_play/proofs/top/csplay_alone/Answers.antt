use Rattle.cs_command.specs.Words.{texts}
use Rattle.cs_play.proofs.Runs.{prepared_run}
use Rattle.cs_play.proofs.top.csplay_alone.Goals as goal

pub returns : goal.returns
returns g c =
    prepared_run _ (texts c.args.words.now) c.prepare-prepared.result c.play_alone-played.result _ _ _ _ _ _ _ _ _ _ _ _
    c.prepare-prepared.ensures.shelf c.prepare-prepared.ensures.prepared c.prepare-prepared.ensures.talk
    c.prepare-prepared.ensures.unprepared c.play_alone-played.ensures (rw c.deref.ensures.value at c.say.ensures)
