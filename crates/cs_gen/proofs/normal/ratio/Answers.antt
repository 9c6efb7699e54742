use Rattle.std.proofs.Common.{◌≡◌, ◌*ℤ◌, pos, to_z, of_z, w64, ap, ◌∙◌, rules, arith}
use Rattle.std.proofs.lemmas.Int.{ints, to_z-of_z}
use Rattle.cs_base.proofs.Arithmetic.{clamp_same}
use Rattle.cs_base.specs.Numbers.{clamp, floor_div}
use Rattle.cs_gen.proofs.Quotients.{ratio_in_range}
use Rattle.cs_gen.proofs.normal.ratio.Goals as goal

pub returns : goal.returns
returns c =
    let low = c.requires.in_range.0 in
    let high = c.requires.in_range.1 in
    let above : to_z w64 (of_z w64 (to_z w64 (of_z w64 c.args.value) *ℤ pos 65536)) ≡ c.args.value *ℤ pos 65536 =
    omega (arith, ints) in
    let below : to_z w64 c.args.most ≡ pos c.args.most = omega (arith, ints) in
    let quotient = rw below at (rw above at c.div_euclid.ensures) in
    c.of_raw.ensures ∙ ap clamp (to_z-of_z w64 c.div_euclid.result (search rules) ∙ quotient)
    ∙ clamp_same (floor_div (c.args.value *ℤ pos 65536) (pos c.args.most))
    (ratio_in_range c.args.value c.args.most c.requires.some c.requires.most)
