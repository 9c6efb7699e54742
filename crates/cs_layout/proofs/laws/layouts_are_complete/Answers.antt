use Rattle.cs_layout.proofs.{Complete.cells_of, Complete.is_laid, Complete.there, Counted.spaces_are}
use Rattle.cs_layout.proofs.laws.layouts_are_complete.Goals as goal

pub returns-clause-laid : goal.returns-clause-laid
returns-clause-laid c = is_laid

pub returns-clause-there : goal.returns-clause-there
returns-clause-there c = there

pub returns-clause-cells : goal.returns-clause-cells
returns-clause-cells c = λ ksmps names spaces live g area apart. cells_of ksmps names spaces live apart g area

pub returns-clause-spaces : goal.returns-clause-spaces
returns-clause-spaces c = spaces_are
