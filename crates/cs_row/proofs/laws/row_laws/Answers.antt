use Rattle.cs_row.proofs.{InRows.conflict_by_row, Runs.runs, Runs.sum_of_rows}
use Rattle.cs_row.proofs.laws.row_laws.Goals as goal

pub returns-clause-run : goal.returns-clause-run
returns-clause-run g c rows d = runs g.J.Job.means g.J.Heard.shape g.J.Heard.gives rows d

pub returns-clause-conflicts : goal.returns-clause-conflicts
returns-clause-conflicts g c rows p t all free less = conflict_by_row g.J.Job.means rows p t all free less

pub returns-clause-sums : goal.returns-clause-sums
returns-clause-sums g c rows at = sum_of_rows g.J.Heard.gives rows at
