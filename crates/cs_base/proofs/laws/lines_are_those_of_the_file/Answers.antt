use Rattle.cs_base.proofs.{LineCuts.lines_numbered, Texts.line_behind}
use Rattle.cs_base.proofs.laws.lines_are_those_of_the_file.Goals as goal

pub returns-clause-numbers : goal.returns-clause-numbers
returns-clause-numbers c = lines_numbered

pub returns-clause-behind : goal.returns-clause-behind
returns-clause-behind c = line_behind
