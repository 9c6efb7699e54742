use Rattle.std.proofs.Common.{ℕ, List, Ok, Err, map}
use Rattle.cs_grammar.proofs.{Gives.failed, StmtRules.args_in, StmtRules.stmts_in}
use Rattle.cs_grammar.proofs.OrcRules.{inside_no_names, inside_no_body, inside_is}
use Rattle.cs_grammar.specs.{Tree.argument, Tree.block, inner.Answers.inside}
use Rattle.cs_grammar.proofs.parser.Parser.inside.Goals as goal

pub returns-in_err-names : goal.returns-in_err-names
returns-in_err-names c =
    failed (λ (ns : List (List ℕ)). ns) inside _ _ _ _ _ _ c.from_residual.ensures.1 c.in_err-names.ensures
    (λ f h. inside_no_names c.args.head.now
    c.args.self.now f h)

pub returns-in_err-body : goal.returns-in_err-body
returns-in_err-body c =
    failed stmts_in inside _ _ _ _ _ _ c.from_residual-in_err-body.ensures.1 c.in_err-body.ensures.reads
    (λ f h. inside_no_body c.args.head.now c.args.self.now c.in_ok-names.names c.inputs.new.self f
    c.in_ok-names.ensures h)

pub returns-in_err-given : goal.returns-in_err-given
returns-in_err-given c =
    failed args_in inside _ _ _ _ _ _ c.from_residual-in_err-given.ensures.1 c.in_err-given.ensures
    (λ f h. inside_is c.args.head.now c.args.self.now c.in_ok-names.names c.inputs.new.self c.block.new.self
    (block c.in_ok-body.body.items) (Err f)
    c.in_ok-names.ensures
    c.in_ok-body.ensures.reads (rw c.outs.ensures at h))

pub returns : goal.returns
returns c =
    inside_is c.args.head.now c.args.self.now c.in_ok-names.names c.inputs.new.self c.block.new.self
    (block c.in_ok-body.body.items)
    (Ok (map argument c.in_ok-given.given.items, c.results.new.self)) c.in_ok-names.ensures
    c.in_ok-body.ensures.reads
    (rw c.outs.ensures at c.in_ok-given.ensures)
