use Rattle.std.proofs.Common.{Ok, Err, sym, ℕ, List}
use Rattle.cs_grammar.proofs.{Gives.failed, Gives.made, Rules.stops, StmtRules.assign_is}
use Rattle.cs_grammar.specs.Tree.{expression, of_what}
use Rattle.cs_grammar.specs.Symbols.{next}
use Rattle.cs_grammar.specs.declared.expr.Level.TheVariants as at
use Rattle.cs_grammar.proofs.parser.Parser.assignment.Goals as goal

pub returns-in_err-name-clause-reads : goal.returns-in_err-name-clause-reads
returns-in_err-name-clause-reads c =
    failed (λ (n : List ℕ). n) (of_what (next c.args.self.now).line) _ _ _ _ _ _ c.from_residual.ensures.1
    c.in_err-name.ensures.reads
    (λ f h. assign_is c.args.scope.now c.args.self.now (Err f) (Err f) c.requires (sym h) (stops at.Expr))

pub returns-in_err-value-clause-reads : goal.returns-in_err-value-clause-reads
returns-in_err-value-clause-reads c =
    failed expression (of_what (next c.args.self.now).line) _ _ _ _ _ _ c.from_residual-in_err-value.ensures.1
    c.in_err-value.ensures.reads
    (λ f h. assign_is c.args.scope.now c.args.self.now (Ok (c.in_ok-name.name, c.target.new.self)) (Err f) c.requires
    (sym c.in_ok-name.ensures.reads)
    (rw c.skip.ensures at h))

pub returns-clause-reads : goal.returns-clause-reads
returns-clause-reads c =
    made (of_what (next c.args.self.now).line) _ _ _ _
    (rw c.second-sign.ensures at (c.assigned.ensures.value (next c.args.self.now).line))
    c.assigned.ensures.memory
    (assign_is c.args.scope.now c.args.self.now (Ok (c.in_ok-name.name, c.target.new.self))
    (Ok (expression c.in_ok-value.value, c.expr.new.self))
    c.requires (sym c.in_ok-name.ensures.reads) (rw c.skip.ensures at c.in_ok-value.ensures.reads))
