use Rattle.std.proofs.Common.{sym, subst}
use Rattle.cs_grammar.proofs.Gives.{failed, followed, unpassed, valued}
use Rattle.cs_grammar.proofs.OrcRules.{lines_fail, lines_open, lines_are}
use Rattle.cs_grammar.specs.{inner.Answers.IsLines, inner.Answers.inside, declared.definition.Inside.Inside}
use Rattle.cs_grammar.proofs.parser.Parser.lines.Goals as goal

pub returns-in_err-lines : goal.returns-in_err-lines
returns-in_err-lines c =
    failed inside inside _ _ _ _ _ _ c.from_residual.ensures.1 c.in_err-lines.ensures
    (λ f h. lines_fail c.args.defined.now c.args.head.now
    c.args.self.now f h)

pub returns-in_err-lines-2 : goal.returns-in_err-lines-2
returns-in_err-lines-2 c =
    unpassed Inside inside _ _ _ _ _ _ c.from_residual-in_err-lines-2.ensures.1 c.in_err-lines-2.ensures.passes
    (λ f p. lines_open c.args.defined.now c.args.head.now c.args.self.now (inside c.in_ok-lines.lines) c.inside.new.self
    f c.in_ok-lines.ensures p)

pub returns : goal.returns
returns c =
    followed inside c.ended.result c.in_ok-lines-2.lines _ _ _ c.ended.ensures.value c.ended.ensures.passes
    (λ st p. subst (λ v. IsLines c.args.scope.now c.args.defined.now c.args.head.now c.args.self.now
    (valued (inside v) st)) (sym c.in_ok-lines-2.ensures.value)
    (lines_are c.args.defined.now c.args.head.now c.args.self.now (inside c.in_ok-lines.lines) c.inside.new.self
    c.followed.new.self st
    c.in_ok-lines.ensures c.in_ok-lines-2.ensures.passes (rw c.outside.ensures at p)))
