use Rattle.std.proofs.Common.{List, Ok, Err, refl, sym}
use Rattle.cs_base.specs.declared.resource.Rate.{Rate}
use Rattle.cs_grammar.proofs.Gives.{failed, followed, unpassed}
use Rattle.cs_grammar.proofs.HeadingRules.{signature_at, signature_line}
use Rattle.cs_grammar.proofs.parser.Parser.signature.Goals as goal

pub returns-in_err-pass : goal.returns-in_err-pass
returns-in_err-pass c =
    unpassed (Unit {0}) (λ (p : List Rate × List Rate). p) _ _ _ _ _ _ c.from_residual-in_err-pass.ensures.1
    c.in_err-pass.ensures.passes
    (λ f p. signature_at c.args.scope.now c.args.self.now c.in_ok-outs.outs c.types.new.self (Err f) (Err f)
    (sym c.in_ok-outs.ensures) p refl)

pub returns-in_err-ins : goal.returns-in_err-ins
returns-in_err-ins c =
    failed (λ (p : List Rate). p) (λ (p : List Rate × List Rate). p) _ _ _ _ _ _ c.from_residual-in_err-ins.ensures.1
    c.in_err-ins.ensures
    (λ f h. signature_at c.args.scope.now c.args.self.now c.in_ok-outs.outs c.types.new.self (Ok c.pass.new.self)
    (Err f)
    (sym c.in_ok-outs.ensures) c.in_ok-pass.ensures.passes (sym h))

pub returns : goal.returns
returns c =
    followed (λ (p : List Rate × List Rate). p) c.ended.result (c.in_ok-outs.outs, c.in_ok-ins.ins) _ _ _
    c.ended.ensures.value c.ended.ensures.passes
    (λ st p. signature_line c.args.scope.now c.args.self.now c.in_ok-outs.outs c.types.new.self c.pass.new.self
    c.types-2.new.self c.in_ok-ins.ins st
    (sym c.in_ok-outs.ensures) c.in_ok-pass.ensures.passes (sym c.in_ok-ins.ensures) p)
