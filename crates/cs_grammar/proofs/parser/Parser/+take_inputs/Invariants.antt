use Rattle.cs_grammar.proofs.parser.Parser.+take_inputs.Given as goal

abbrev pub decreases-take_inputs : goal.decreases-take_inputs
decreases-take_inputs l = l.count
