use Rattle.std.proofs.Common.{rules}
use Rattle.cs_grammar.proofs.scope.Scope.keyword_kind.Goals as goal

pub returns-in_default : goal.returns-in_default
returns-in_default c = search rules

pub returns-in_default-4 : goal.returns-in_default-4
returns-in_default-4 c = search rules
