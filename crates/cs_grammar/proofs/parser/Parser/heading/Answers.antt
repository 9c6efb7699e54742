use Rattle.std.proofs.Common.{List, Ok, Err, sym}
use Rattle.cs_base.specs.declared.resource.Rate.{Rate}
use Rattle.cs_grammar.proofs.{Gives.failed, Gives.unpassed, HeadingRules.heading_is, HeadingRules.heading_uncut}
use Rattle.cs_grammar.specs.Headings.{Heading}
use Rattle.cs_grammar.specs.Symbols.{after, next}
use Rattle.cs_grammar.proofs.parser.Parser.heading.Goals as goal

pub returns-in_err-pass-clause-reads : goal.returns-in_err-pass-clause-reads
returns-in_err-pass-clause-reads c =
    unpassed (Unit {0}) (λ (h : Heading). h) _ _ _ _ _ _ c.from_residual-in_err-pass.ensures.1
    c.in_err-pass.ensures.passes
    (λ f p. heading_uncut c.args.scope.now (next c.args.self.now).line (after c.args.self.now) c.in_ok-name.name.now
    c.new_name.new.self f
    (rw c.skip.ensures at (sym c.in_ok-name.ensures.reads)) p)

pub returns-in_err-outs-clause-reads : goal.returns-in_err-outs-clause-reads
returns-in_err-outs-clause-reads c =
    failed (λ (p : List Rate × List Rate). p) (λ (h : Heading). h) _ _ _ _ _ _ c.from_residual-in_err-outs.ensures.1
    c.in_err-outs.ensures
    (λ f h. heading_is c.args.scope.now (next c.args.self.now).line (after c.args.self.now) c.in_ok-name.name.now
    c.new_name.new.self c.pass.new.self (Err f)
    (rw c.skip.ensures at (sym c.in_ok-name.ensures.reads)) c.in_ok-pass.ensures.passes h)

pub returns-clause-reads : goal.returns-clause-reads
returns-clause-reads c =
    rw c.line-line.ensures (heading_is c.args.scope.now (next c.args.self.now).line (after c.args.self.now)
    c.in_ok-name.name.now c.new_name.new.self
    c.pass.new.self (Ok ((c.in_ok-outs.outs, c.in_ok-outs.ins), c.signature.new.self))
    (rw c.skip.ensures at (sym c.in_ok-name.ensures.reads))
    c.in_ok-pass.ensures.passes c.in_ok-outs.ensures)
