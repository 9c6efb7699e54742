use Rattle.std.proofs.Common.{Ok, Err, sym, map}
use Rattle.cs_grammar.specs.{declared.tree.Callee.Callee, Grammar.args_stop, Tree.argument, Tree.of_what}
use Rattle.cs_grammar.specs.Symbols.{next}
use Rattle.cs_grammar.proofs.{Gives.failed, StmtRules.args_in, StmtRules.bare_is}
use Rattle.cs_grammar.proofs.parser.Parser.bare_call.Goals as goal

pub returns-in_err-callee-clause-reads : goal.returns-in_err-callee-clause-reads
returns-in_err-callee-clause-reads c =
    failed (λ (n : Callee). n) (of_what (next c.args.self.now).line) _ _ _ _ _ _ c.from_residual.ensures.1
    c.in_err-callee.ensures.reads
    (λ f h. bare_is c.args.scope.now c.args.self.now (Err f) (Err f) c.requires (sym h) args_stop)

pub returns-in_err-args-clause-reads : goal.returns-in_err-args-clause-reads
returns-in_err-args-clause-reads c =
    failed args_in (of_what (next c.args.self.now).line) _ _ _ _ _ _ c.from_residual-in_err-args.ensures.1
    c.in_err-args.ensures.reads
    (λ f h. bare_is c.args.scope.now c.args.self.now (Ok (c.in_ok-callee.callee, c.operation.new.self)) (Err f)
    c.requires
    (sym c.in_ok-callee.ensures.reads) h)

pub returns-clause-reads : goal.returns-clause-reads
returns-clause-reads c =
    rw c.new.ensures (bare_is c.args.scope.now c.args.self.now (Ok (c.in_ok-callee.callee, c.operation.new.self))
    (Ok (map argument c.in_ok-args.args.items, c.arguments.new.self)) c.requires (sym c.in_ok-callee.ensures.reads)
    c.in_ok-args.ensures.reads)
