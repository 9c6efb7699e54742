use Rattle.std.proofs.Common.{ℕ, List, Ok, Err, refl, sym, map}
use Rattle.cs_grammar.specs.{declared.tree.Callee.Callee, Grammar.args_stop, Tree.argument, Tree.of_what}
use Rattle.cs_grammar.specs.Symbols.{next}
use Rattle.cs_grammar.proofs.{Gives.failed, StmtRules.args_in, StmtRules.results_is}
use Rattle.cs_grammar.proofs.parser.Parser.call_with_results.Goals as goal

pub returns-in_err-results-clause-reads : goal.returns-in_err-results-clause-reads
returns-in_err-results-clause-reads c =
    failed (λ (n : List (List ℕ)). n) (of_what (next c.args.self.now).line) _ _ _ _ _ _ c.from_residual.ensures.1
    c.in_err-results.ensures.reads
    (λ f h. results_is c.args.scope.now c.args.self.now (Err f) (Err f) (Err f) c.requires (sym h) refl args_stop)

pub returns-in_err-callee-clause-reads : goal.returns-in_err-callee-clause-reads
returns-in_err-callee-clause-reads c =
    failed (λ (n : Callee). n) (of_what (next c.args.self.now).line) _ _ _ _ _ _ c.from_residual-in_err-callee.ensures.1
    c.in_err-callee.ensures.reads
    (λ f h. results_is c.args.scope.now c.args.self.now (Ok (c.in_ok-results.results, c.targets.new.self)) (Err f)
    (Err f) c.requires
    (sym c.in_ok-results.ensures.reads) (sym h) args_stop)

pub returns-in_err-args-clause-reads : goal.returns-in_err-args-clause-reads
returns-in_err-args-clause-reads c =
    failed args_in (of_what (next c.args.self.now).line) _ _ _ _ _ _ c.from_residual-in_err-args.ensures.1
    c.in_err-args.ensures.reads
    (λ f h. results_is c.args.scope.now c.args.self.now (Ok (c.in_ok-results.results, c.targets.new.self))
    (Ok (c.in_ok-callee.callee, c.operation.new.self)) (Err f) c.requires (sym c.in_ok-results.ensures.reads)
    (sym c.in_ok-callee.ensures.reads) h)

pub returns-clause-reads : goal.returns-clause-reads
returns-clause-reads c =
    results_is c.args.scope.now c.args.self.now (Ok (c.in_ok-results.results, c.targets.new.self))
    (Ok (c.in_ok-callee.callee, c.operation.new.self))
    (Ok (map argument c.in_ok-args.args.items, c.arguments.new.self)) c.requires (sym c.in_ok-results.ensures.reads)
    (sym c.in_ok-callee.ensures.reads)
    c.in_ok-args.ensures.reads
