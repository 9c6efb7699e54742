use Rattle.std.proofs.Common.{Ok, Err, subst}
use Rattle.cs_grammar.proofs.{OrcRules.failed_on, OrcRules.stmt_fails, OrcRules.stmt_added, Shorter.line_shorter}
use Rattle.cs_grammar.specs.{Grammar.ReadsStmt, Tree.statement}
use Rattle.cs_grammar.proofs.parser.Parser.add_stmt.Goals as goal

pub returns-in_err-stmt-clause-reads : goal.returns-in_err-stmt-clause-reads
returns-in_err-stmt-clause-reads c = λ first s.
    failed_on statement _ _ _ _ _ _ c.from_residual.ensures.1 c.in_err-stmt.ensures.reads
    (λ f h. stmt_fails first c.args.self.now c.args.draft.now.defined
    c.args.draft.now.given.keys c.args.draft.now.orc s f c.requires
    (subst (λ x. ReadsStmt x c.args.self.now (Err f)) c.outside.ensures h))

pub returns-clause-reads : goal.returns-clause-reads
returns-clause-reads c = λ first s.
    stmt_added first _ _ _ c.args.draft.now.orc s c.in_ok-stmt.stmt _ _ c.in_ok-push.ensures.items c.requires
    (subst (λ x. ReadsStmt x c.args.self.now (Ok (statement c.in_ok-stmt.stmt, c.stmt.new.self))) c.outside.ensures
    c.in_ok-stmt.ensures.reads)

pub returns-clause-goes : goal.returns-clause-goes
returns-clause-goes c =
    line_shorter c.outside.result c.args.self.now (statement c.in_ok-stmt.stmt) c.stmt.new.self
    c.in_ok-stmt.ensures.reads
