use Rattle.std.proofs.Common.{◌∙◌, ℕ, List, sym, ap}
use Rattle.cs_grammar.proofs.Gives.{failed, followed, ended_is}
use Rattle.cs_grammar.proofs.parser.Parser.instr_line.Goals as goal
use Rattle.cs_grammar.specs.Reading.{ended}

pub returns-in_err-numbers-clause-reads : goal.returns-in_err-numbers-clause-reads
returns-in_err-numbers-clause-reads c =
    failed (λ (ns : List ℕ). ns) (λ (ns : List ℕ). ns) _ _ _ _ _ _ c.from_residual.ensures.1
    c.in_err-numbers.ensures.reads
    (λ f h. ap (ended c.args.scope.now) (rw c.skip.ensures at h))

pub returns-clause-reads : goal.returns-clause-reads
returns-clause-reads c =
    followed (λ (ns : List ℕ). ns) c.ended.result c.in_ok-numbers.numbers _ _ _ c.ended.ensures.value
    c.ended.ensures.passes
    (λ st p. sym (ended_is c.args.scope.now c.in_ok-numbers.numbers c.numbers.new.self st p)
    ∙ ap (ended c.args.scope.now) (rw c.skip.ensures at c.in_ok-numbers.ensures.reads))
