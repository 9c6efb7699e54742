use Rattle.std.proofs.Common.{◌≡◌, ◌∙◌, Ok, sym, subst, map}
use Rattle.cs_grammar.proofs.{Gives.failed, StmtRules.args_in, StmtRules.weaker}
use Rattle.cs_grammar.proofs.ResultRules.{none_given, given}
use Rattle.cs_grammar.specs.{Orchestra.ReadsResult, Orchestra.xout_broken, Tree.argument}
use Rattle.cs_grammar.specs.inner.Takes.{no_results, results_of}
use Rattle.cs_grammar.proofs.parser.Parser.results.Goals as goal

pub returns-then-not-next_is : goal.returns-then-not-next_is
returns-then-not-next_is c =
    weaker args_in c.no_results.result c.args.self.now (λ o. o ≡ no_results c.args.outs.now c.args.self.now)
    (ReadsResult c.args.scope.now c.args.outs.now (Ok c.args.self.now))
    (λ o e. subst (ReadsResult c.args.scope.now c.args.outs.now (Ok c.args.self.now)) (sym e)
    (none_given c.args.scope.now c.args.outs.now c.args.self.now (sym c.next_is.ensures ∙ c.if-not-next_is.true)))
    c.no_results.ensures

pub returns-in_err-values : goal.returns-in_err-values
returns-in_err-values c =
    failed args_in args_in _ _ _ _ _ _ c.from_residual.ensures.1 c.in_err-values.ensures
    (λ f h. xout_broken (sym c.next_is.ensures ∙ c.if-not-next_is.false) h)

pub returns : goal.returns
returns c =
    weaker args_in c.judged.result c.values.new.self
    (λ o. o ≡ results_of c.args.scope.now c.line-line.result c.args.outs.now
    (Ok (map argument c.in_ok-values.values.items, c.values.new.self)))
    (ReadsResult c.args.scope.now c.args.outs.now (Ok c.args.self.now))
    (λ o e. subst (ReadsResult c.args.scope.now c.args.outs.now (Ok c.args.self.now))
    (sym (rw c.line-line.ensures at e))
    (given c.args.scope.now c.args.outs.now c.args.self.now
    (Ok (map argument c.in_ok-values.values.items, c.values.new.self))
    (sym c.next_is.ensures ∙ c.if-not-next_is.false) c.in_ok-values.ensures))
    c.judged.ensures
