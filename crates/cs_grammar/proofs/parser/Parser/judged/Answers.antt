use Rattle.std.proofs.Common.{◌∙◌, Ok, Err, sym, map}
use Rattle.cs_grammar.proofs.{Gives.unpassed, HeadingRules.judged_is, StmtRules.args_in}
use Rattle.cs_grammar.specs.Tree.{argument}
use Rattle.cs_grammar.proofs.parser.Parser.judged.Goals as goal

pub returns-in_err-last_line : goal.returns-in_err-last_line
returns-in_err-last_line c =
    unpassed (Unit {0}) args_in _ _ _ _ _ _ c.from_residual.ensures.1 c.in_err-last_line.ensures
    (λ f p. sym (judged_is c.args.scope.now c.args.line c.args.outs.now (map argument c.args.values.items)
    c.args.self.now (Err f)
    (rw c.deref.ensures.value at (sym c.are_results.ensures ∙ c.if-not-are_results.false)) p))

pub returns : goal.returns
returns c =
    sym (judged_is c.args.scope.now c.args.line c.args.outs.now (map argument c.args.values.items) c.args.self.now
    (Ok c.args.self.now)
    (rw c.deref.ensures.value at (sym c.are_results.ensures ∙ c.if-not-are_results.false)) c.in_ok-last_line.ensures)
