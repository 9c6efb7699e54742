use Rattle.std.proofs.Common.{subst, map}
use Rattle.cs_grammar.proofs.{Gives.failed, Gives.followed, Gives.ended_is, StmtRules.args_in}
use Rattle.cs_grammar.specs.{Orchestra.ReadsXout, Orchestra.xout, Tree.argument}
use Rattle.cs_grammar.proofs.parser.Parser.values.Goals as goal

pub returns-in_err-values : goal.returns-in_err-values
returns-in_err-values c =
    failed args_in args_in _ _ _ _ _ _ c.from_residual.ensures.1 c.in_err-values.ensures.reads
    (λ f h. xout (rw c.skip.ensures at h))

pub returns : goal.returns
returns c =
    followed args_in c.ended.result c.in_ok-values.values _ _ _ c.ended.ensures.value c.ended.ensures.passes
    (λ st p. subst (ReadsXout c.args.scope.now c.args.self.now)
    (ended_is c.args.scope.now (map argument c.in_ok-values.values.items) c.list.new.self st p)
    (xout (rw c.skip.ensures at c.in_ok-values.ensures.reads)))
