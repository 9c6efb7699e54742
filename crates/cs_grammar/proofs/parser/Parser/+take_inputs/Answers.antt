use Rattle.std.proofs.Common.{◌∙◌, sym, ap}
use Rattle.cs_grammar.proofs.HeadingRules.{last_input}
use Rattle.cs_grammar.proofs.parser.Parser.+take_inputs.Goals as goal
use Rattle.cs_grammar.specs.inner.Takes.{is_none}

pub returns-then-fit-clause-fit : goal.returns-then-fit-clause-fit
returns-then-fit-clause-fit t c =
    c.is_none.ensures ∙ ap is_none c.after_first-rest.ensures
    ∙ sym (last_input c.args.scope.now c.args.names.now c.args.ins.now c.args.count c.args.self.now
    c.if-count-eq1.true (sym c.if-fit.ensures))
