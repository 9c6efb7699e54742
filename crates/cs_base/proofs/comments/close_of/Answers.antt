use Rattle.std.proofs.Common.{arith, ap, sym, ◌∙◌}
use Rattle.std.proofs.lemmas.List.{take_rest}
use Rattle.cs_base.specs.Comments.{closes}
use Rattle.cs_base.proofs.Closings.{close_next}
use Rattle.cs_base.proofs.comments.close_of.Goals as goal

pub loop-at-preserved : goal.loop-at-preserved
loop-at-preserved c =
    let next = close_next c.args.text.now c.loop-at.at c.loop-at-test.true
    (ap closes (sym (take_rest c.args.text.now c.loop-at.at)) ∙ sym c.if-starts_with.ensures.value) in
    omega (arith, next, c.loop-at.invariant)
