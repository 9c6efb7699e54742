use Rattle.std.proofs.Common.{◌<◌, ◌^◌, length, subst}
use Rattle.cs_grammar.proofs.Steps.{short_left}
use Rattle.cs_grammar.proofs.parser.Parser.again.Goals as goal

pub returns-clause-short : goal.returns-clause-short
returns-clause-short c =
    subst (λ ts. length ts < 2 ^ 63) c.self.view_is
    (short_left c.self.inside.source.now c.self.inside.place c.self.inside.tokens.now c.self.invariant.short)
