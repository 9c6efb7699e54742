use Rattle.std.proofs.lemmas.{Grind.common_steps, Int.ints, Int.to_z-of_z}
use Rattle.std.proofs.Common.{◌≡◌, ◌≤◌, ◌^◌, ◌∙◌, ◌*ℤ◌, FitsSigned, unsigned_abs, to_z, of_z, w64, ap, sym, subst}
use Rattle.std.proofs.Common.{arith}
use Rattle.cs_base.specs.Numbers.{floor_div}
use Rattle.cs_wav.specs.Wav.{full_scale}
use Rattle.cs_wav.proofs.Scales.{floor_is, level_small, near_product, product_is}
use Rattle.cs_wav.proofs.sample.Scale.level.Goals as goal

pub overflow_mul-value : goal.overflow_mul-value
overflow_mul-value c =
    let scale = c.args.self.now in
    let known = scale.known c.in-Some.divisor c.in-Some.is in
    let near = near_product scale.width c.in-Some.divisor.value scale.dbfs c.args.value known scale.low c.requires.low
    c.requires.high (scale.near c.in-Some.divisor c.in-Some.is) in
    subst (FitsSigned w64)
    (sym (product_is scale.width c.args.value c.full_scale.result c.ranges.value c.full_scale.ensures)) near.0

pub divide-requires : goal.divide-requires
divide-requires c =
    let scale = c.args.self.now in
    let known = scale.known c.in-Some.divisor c.in-Some.is in
    let near = near_product scale.width c.in-Some.divisor.value scale.dbfs c.args.value known scale.low c.requires.low
    c.requires.high (scale.near c.in-Some.divisor c.in-Some.is) in
    subst (λ z. unsigned_abs z ≤ 2 ^ 61)
    (sym (ap (λ z. to_z w64 (of_z w64 z))
    (product_is scale.width c.args.value c.full_scale.result c.ranges.value c.full_scale.ensures)
    ∙ to_z-of_z w64 (c.args.value *ℤ full_scale scale.width) near.0))
    near.1

pub wide_level-requires-clause-bounded : goal.wide_level-requires-clause-bounded
wide_level-requires-clause-bounded c =
    grind (arith, common_steps, ints, level_small, of_z, product_is, to_z, unsigned_abs, w64)

pub returns-in-Some : goal.returns-in-Some
returns-in-Some c =
    let scale = c.args.self.now in
    let known = scale.known c.in-Some.divisor c.in-Some.is in
    let near = near_product scale.width c.in-Some.divisor.value scale.dbfs c.args.value known scale.low c.requires.low
    c.requires.high (scale.near c.in-Some.divisor c.in-Some.is) in
    let result : to_z w64 (of_z w64 c.divide.result) ≡ c.divide.result = omega (arith, ints) in
    let exact = ap (λ z. to_z w64 (of_z w64 z))
    (product_is scale.width c.args.value c.full_scale.result c.ranges.value c.full_scale.ensures)
    ∙ to_z-of_z w64 (c.args.value *ℤ full_scale scale.width) near.0 in
    result ∙ c.divide.ensures ∙ (λ i. floor_div (exact i) (known i))
    ∙ floor_is (c.args.value *ℤ full_scale scale.width) scale.dbfs scale.low
