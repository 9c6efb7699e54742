use Rattle.std.proofs.Common.{rules}
use Rattle.cs_grammar.proofs.stmt.LineForm.of_word.Goals as goal

pub returns-in_default-clause-form : goal.returns-in_default-clause-form
returns-in_default-clause-form c = search rules
