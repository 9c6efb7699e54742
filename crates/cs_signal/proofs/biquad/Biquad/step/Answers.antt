use Rattle.std.proofs.Common.{refl, ap, of_z, rules, to_z, w64, ◌∙◌}
use Rattle.std.specs.Int.{w128}
use Rattle.std.proofs.lemmas.Int.{to_z-of_z}
use Rattle.cs_signal.specs.Biquad.{ratio}
use Rattle.cs_signal.proofs.Biquads.{stepped}
use Rattle.cs_signal.proofs.biquad.Biquad.step.Goals as goal

pub returns : goal.returns
returns c =
    let sum = to_z w128 (of_z w128 c.wide_sum.result) in
    stepped c.args.by.now c.args.self.now c.follow.new.self c.args.x c.args.x c.ratio-y.result sum c.follow.ensures
    (c.ratio-y.ensures ∙ ap (ratio sum) (to_z-of_z w64 c.raw.result (search rules) ∙ c.raw.ensures.value))
    (to_z-of_z w128 c.wide_sum.result (search rules) ∙ c.wide_sum.ensures.value) refl
