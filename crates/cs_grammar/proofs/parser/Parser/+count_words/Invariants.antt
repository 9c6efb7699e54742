use Rattle.std.proofs.Common.{length}
use Rattle.cs_grammar.proofs.parser.Parser.+count_words.Given as goal

abbrev pub decreases-count_words : goal.decreases-count_words
decreases-count_words l = length l.self.now
