use Rattle.std.proofs.Common.{◌≡◌, ◌*◌, ◌≤◌, ◌*ℤ◌, unsigned_abs, to_z, of_z, w64, ap, ◌∙◌, arith}
use Rattle.std.proofs.lemmas.Int.{ints, to_z-of_z}
use Rattle.cs_signal.proofs.Ramps.{product_within}
use Rattle.cs_signal.proofs.linen.near_product.Goals as goal

pub returns : goal.returns
returns c =
    let x = c.args.x in
    let f = c.args.factor in
    let raw = c.requires.number in
    let below = c.requires.factor in
    let small : unsigned_abs (x *ℤ f) ≤ 140737488355328 * 65535 =
    product_within x f 140737488355328 65535 (omega (arith, ints, raw.0, raw.1)) (omega (arith, below)) in
    let whole : to_z w64 (of_z w64 (x *ℤ f)) ≡ x *ℤ f = omega (arith, ints, small) in
    ap (λ z. to_z w64 (of_z w64 (z *ℤ to_z w64 (of_z w64 f)))) (to_z-of_z w64 x c.ranges.x)
    ∙ ap (λ z. to_z w64 (of_z w64 (x *ℤ z))) (to_z-of_z w64 f c.ranges.factor) ∙ whole
