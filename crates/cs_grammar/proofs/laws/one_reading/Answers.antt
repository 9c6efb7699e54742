use Rattle.cs_grammar.proofs.OneOrc.{some_reading, one_tree, one_fault, not_both}
use Rattle.cs_grammar.proofs.laws.one_reading.Goals as goal

pub returns : goal.returns
returns c = record { some = some_reading; one_tree = one_tree; one_fault = one_fault; not_both = not_both }
