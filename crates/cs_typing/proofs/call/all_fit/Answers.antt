use Rattle.std.proofs.Common.{◌∙◌, ◌+◌, arith, refl, sym, ap}
use Rattle.cs_grammar.specs.Tree.{argument}
use Rattle.cs_typing.specs.Calls.{all_fit, fits}
use Rattle.cs_typing.proofs.Arguments.{all_next}
use Rattle.cs_typing.proofs.call.all_fit.Goals as goal

pub loop-arg-preserved : goal.loop-arg-preserved
loop-arg-preserved c =
    let e = c.fits.ensures ∙ ap (λ l. fits l c.args.bound (argument c.arg-item.result)) c.letter.ensures in (
      ap (λ k. k + 1) c.loop-arg.invariant.0,
      all_next (all_fit c.args.row.now c.args.bound c.loop-arg.n) c.args.args.now c.loop-arg.arg-index _ _ _ _ _
          (omega arith) c.arg-item.is refl (sym e ∙ c.if-not-fits.false) c.loop-arg.invariant.1,
    )

pub returns-then-not-fits : goal.returns-then-not-fits
returns-then-not-fits c =
    let e = c.fits.ensures ∙ ap (λ l. fits l c.args.bound (argument c.arg-item.result)) c.letter.ensures in
    all_next (all_fit c.args.row.now c.args.bound c.loop-arg.n) c.args.args.now c.loop-arg.arg-index _ _ _ _ _
    (omega arith) c.arg-item.is refl (sym e ∙ c.if-not-fits.true) c.loop-arg.invariant.1
