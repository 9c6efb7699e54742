use Rattle.std.proofs.Common.{◌∙◌, sym}
use Rattle.cs_grammar.proofs.Names.{number_added}
use Rattle.cs_grammar.proofs.parser.Parser.number.Goals as goal

pub returns-clause-given : goal.returns-clause-given
returns-clause-given c =
    number_added c.args.given.now.keys c.insert.new.self.keys _ (sym c.contains.ensures ∙ c.if-contains.false)
    c.in_ok-insert.ensures.keys
