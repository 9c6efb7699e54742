use Rattle.cs_play.proofs.Paged.{on_the_page}
use Rattle.cs_play.proofs.laws.runs_are_as_the_page_says.Goals as goal

pub returns : goal.returns
returns g c = λ words s before now run. on_the_page _ words before now c.early_stops_are_fronts.ensures s run
