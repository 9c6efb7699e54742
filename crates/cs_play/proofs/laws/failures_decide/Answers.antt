use Rattle.cs_play.proofs.Paged.{file_decides, on_the_page, shelf_decides, talk_decides}
use Rattle.cs_play.proofs.laws.failures_decide.Goals as goal

pub returns-clause-shelf : goal.returns-clause-shelf
returns-clause-shelf g c = λ words s before now run. shelf_decides
    (on_the_page _ words before now c.early_stops_are_fronts.ensures s run)

pub returns-clause-wav : goal.returns-clause-wav
returns-clause-wav g c = λ words s before now run. file_decides
    (on_the_page _ words before now c.early_stops_are_fronts.ensures s run)

pub returns-clause-talk : goal.returns-clause-talk
returns-clause-talk g c = λ words s before now run. talk_decides
    (on_the_page _ words before now c.early_stops_are_fronts.ensures s run)
