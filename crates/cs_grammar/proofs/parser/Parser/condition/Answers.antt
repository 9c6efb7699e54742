use Rattle.std.proofs.Common.{Err, Ok, refl, sym, subst}
use Rattle.cs_grammar.proofs.Gives.{failed, followed, unpassed, valued}
use Rattle.cs_grammar.proofs.{Rules.closed_is, StmtRules.condition_is, StmtRules.condition_line}
use Rattle.cs_grammar.specs.{Tree.expression, declared.tree.Expr.Expr, inner.Answers.IsCondition}
use Rattle.cs_grammar.specs.declared.symbol.Expected.TheVariants as expected
use Rattle.cs_grammar.proofs.parser.Parser.condition.Goals as goal

pub returns-in_err-cond-clause-reads : goal.returns-in_err-cond-clause-reads
returns-in_err-cond-clause-reads c =
    failed expression expression _ _ _ _ _ _ c.from_residual.ensures.1 c.in_err-cond.ensures.reads
    (λ f h. condition_is (Err f) (Err f, h, refl))

pub returns-in_err-cond-2-clause-reads : goal.returns-in_err-cond-2-clause-reads
returns-in_err-cond-2-clause-reads c =
    unpassed Expr expression _ _ _ _ _ _ c.from_residual-in_err-cond-2.ensures.1 c.in_err-cond-2.ensures.passes
    (λ f p. condition_is (Err f) (closed_is expected.Then (expression c.in_ok-cond.cond) c.expr.new.self (Err f)
    c.in_ok-cond.ensures.reads p))

pub returns-clause-reads : goal.returns-clause-reads
returns-clause-reads c =
    followed expression c.ended.result c.in_ok-cond-2.cond _ _ _ c.ended.ensures.value c.ended.ensures.passes
    (λ st p. subst (λ v. IsCondition c.args.scope.now c.args.self.now (valued (expression v) st))
    (sym c.in_ok-cond-2.ensures.value)
    (condition_line (expression c.in_ok-cond.cond) c.followed.new.self st
    (closed_is expected.Then (expression c.in_ok-cond.cond) c.expr.new.self (Ok c.followed.new.self)
    c.in_ok-cond.ensures.reads c.in_ok-cond-2.ensures.passes) p))
