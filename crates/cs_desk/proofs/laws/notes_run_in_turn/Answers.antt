use Rattle.cs_desk.proofs.Turns.{run_in_turn}
use Rattle.cs_desk.proofs.laws.notes_run_in_turn.Goals as goal

pub returns : goal.returns
returns g c most notes k s rows h =
    run_in_turn g.J.Job.means g.J.Heard.shape g.J.Heard.gives most notes k s c.row_laws.ensures.conflicts rows h
