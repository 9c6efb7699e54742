use Rattle.std.proofs.Common.{◌≡◌, pos, ap, of_z, rules, sym, to_z, w64, ◌∙◌, arith}
use Rattle.std.proofs.lemmas.Int.{ints, to_z-of_z}
use Rattle.cs_base.proofs.Arithmetic.{clamp_same}
use Rattle.cs_base.specs.Numbers.{floor_div, one}
use Rattle.cs_signal.specs.Biquad.{ratio}
use Rattle.cs_signal.proofs.Biquads.{by_one_in_range}
use Rattle.cs_signal.proofs.biquad.divided.Goals as goal

pub returns-then-raw-eq-ONE : goal.returns-then-raw-eq-ONE
returns-then-raw-eq-ONE c =
    let n = c.args.n in
    let bounded = c.requires.bounded in
    let same : to_z w64 (of_z w64 n) ≡ n = omega (arith, ints, bounded) in
    let e : c.args.a0 ≡ pos 65536 =
    sym c.raw.ensures.value ∙ sym (to_z-of_z w64 c.raw.result (search rules)) ∙ ap (to_z w64) c.if-raw-eq-ONE.true in
    c.of_product.ensures ∙ ap (λ z. floor_div z one) same
    ∙ sym (clamp_same (floor_div n one) (by_one_in_range n bounded)) ∙ sym (ap (ratio n) e)
