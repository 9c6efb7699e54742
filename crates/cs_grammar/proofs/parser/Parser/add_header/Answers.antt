use Rattle.std.proofs.Common.{◌≡◌, Ok, Err, sym, subst}
use Rattle.cs_grammar.specs.{declared.tree.HeadLine.HeadLine, Lines.header_line}
use Rattle.cs_grammar.proofs.{OrcRules.failed_on, OrcRules.header_fails, OrcRules.header_added, Shorter.header_shorter}
use Rattle.cs_grammar.proofs.parser.Parser.add_header.Goals as goal

pub returns-in_err-line-clause-reads : goal.returns-in_err-line-clause-reads
returns-in_err-line-clause-reads c = λ first s.
    failed_on (λ (h : HeadLine). h) _ _ _ _ _ _ c.from_residual.ensures.1 c.in_err-line.ensures
    (λ f h. header_fails first c.args.self.now c.args.draft.now.defined c.args.draft.now.given.keys
    c.args.draft.now.orc s c.args.name f c.requires
    (subst (λ x. header_line x c.args.name c.args.self.now ≡ Err f) c.outside.ensures (sym h)))

pub returns-clause-reads : goal.returns-clause-reads
returns-clause-reads c = λ first s.
    header_added first _ _ _ c.args.draft.now.orc s c.args.name c.in_ok-line.line _ _ c.in_ok-push.ensures.items
    c.requires (subst (λ x. header_line x c.args.name c.args.self.now ≡ Ok (c.in_ok-line.line, c.header_line.new.self))
    c.outside.ensures (sym c.in_ok-line.ensures))

pub returns-clause-goes : goal.returns-clause-goes
returns-clause-goes c =
    header_shorter c.outside.result c.args.name c.args.self.now c.in_ok-line.line c.header_line.new.self
    c.in_ok-line.ensures
