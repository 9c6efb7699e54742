use Rattle.std.proofs.Common.{sym}
use Rattle.cs_grammar.proofs.{Gives.failed, ListRules.quoted_reads}
use Rattle.cs_grammar.specs.{Grammar.arg_value, Tree.argument, Tree.expression}
use Rattle.cs_grammar.proofs.parser.Parser.argument.Goals as goal

pub returns-then-next_is-clause-reads : goal.returns-then-next_is-clause-reads
returns-then-next_is-clause-reads c =
    quoted_reads c.args.scope.now c.args.role c.args.self.now _ _ (sym c.if-next_is.ensures) c.quoted.ensures.reads

pub returns-in_err-expr-clause-reads : goal.returns-in_err-expr-clause-reads
returns-in_err-expr-clause-reads c =
    failed expression argument _ _ _ _ _ _ c.from_residual.ensures.1 c.in_err-expr.ensures.reads
    (λ f h. arg_value (sym c.if-next_is.ensures) h)

pub returns-clause-reads : goal.returns-clause-reads
returns-clause-reads c = arg_value (sym c.if-next_is.ensures) c.in_ok-expr.ensures.reads
