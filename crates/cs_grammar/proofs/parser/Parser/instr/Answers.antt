use Rattle.std.proofs.Common.{ℕ, List, Ok, Err}
use Rattle.cs_grammar.proofs.{Gives.failed, StmtRules.stmts_in, OrcRules.instr_no_line, OrcRules.instr_reads}
use Rattle.cs_grammar.specs.Tree.{block, instrument}
use Rattle.cs_grammar.proofs.parser.Parser.instr.Goals as goal

pub returns-in_err-numbers-clause-reads : goal.returns-in_err-numbers-clause-reads
returns-in_err-numbers-clause-reads c =
    failed (λ (ns : List ℕ). ns) instrument _ _ _ _ _ _ c.from_residual.ensures.1 c.in_err-numbers.ensures.reads
    (λ f h. instr_no_line c.args.defined.now c.args.given.now.keys c.args.self.now f
    (rw c.in_instrument-scope.ensures at h))

pub returns-in_err-body-clause-reads : goal.returns-in_err-body-clause-reads
returns-in_err-body-clause-reads c =
    failed stmts_in instrument _ _ _ _ _ _ c.from_residual-in_err-body.ensures.1 c.in_err-body.ensures
    (λ f h. instr_reads c.args.defined.now c.args.given.now.keys c.args.self.now c.in_ok-numbers.numbers
    c.instr_line.new.self (Err f)
    (rw c.in_instrument-scope.ensures at c.in_ok-numbers.ensures.reads) (rw c.in_instrument-scope.ensures at h))

pub returns-clause-reads : goal.returns-clause-reads
returns-clause-reads c =
    rw c.line-line.ensures (instr_reads c.args.defined.now c.args.given.now.keys c.args.self.now c.in_ok-numbers.numbers
    c.instr_line.new.self
    (Ok (block c.in_ok-body.body.items, c.instr_body.new.self))
    (rw c.in_instrument-scope.ensures at c.in_ok-numbers.ensures.reads)
    (rw c.in_instrument-scope.ensures at c.in_ok-body.ensures))
