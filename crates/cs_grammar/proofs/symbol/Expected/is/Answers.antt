use Rattle.std.proofs.Common.{rules}
use Rattle.cs_grammar.proofs.symbol.Expected.is.Goals as goal

pub returns-in-End-matches : goal.returns-in-End-matches
returns-in-End-matches c = search rules
