use Rattle.std.proofs.Common.{◌∙◌, ◌-ℤ◌, ◌*ℤ◌, ◌≤ℤ◌, ◌<ℤ◌, pos, w64, arith}
use Rattle.std.proofs.lemmas.Int.{ints, to_z-of_z}
use Rattle.cs_base.proofs.Quotients.{quotient_is}
use Rattle.cs_base.proofs.divisor.is_quotient.Goals as goal

pub returns : goal.returns
returns c = λ h.
    let within = c.is_rest.ensures h in
    let low : pos 0 ≤ℤ c.rest_of.result = omega (arith, ints, within.0) in
    let high : c.rest_of.result <ℤ c.args.divisor = omega (arith, ints, within.1) in
    quotient_is c.args.n c.args.guess c.args.divisor c.rest_of.result (c.rest_of.ensures
    ∙ (λ i. to_z-of_z w64 c.args.n c.ranges.n i
    -ℤ (to_z-of_z w64 c.args.guess c.ranges.guess i *ℤ to_z-of_z w64 c.args.divisor c.ranges.divisor i))) low high
