use Rattle.std.proofs.Common.{◌≡◌, ℤ, ◌^◌, ◌*ℤ◌, ◌∙◌, FitsSigned, of_z, to_z, w64, ap, arith}
use Rattle.std.specs.Int.{w128}
use Rattle.std.proofs.lemmas.Int.{fits_signed_mul, ints, to_z-of_z}
use Rattle.cs_base.proofs.number.times.Goals as goal

wide : (x : ℤ) → FitsSigned w64 x → to_z w128 (of_z w128 (to_z w64 (of_z w64 x))) ≡ x
wide x f = omega (arith, ints)

pub overflow_mul-result : goal.overflow_mul-result
overflow_mul-result c =
    let x = to_z w128 (of_z w128 (to_z w64 (of_z w64 c.args.x))) in
    let y = to_z w128 (of_z w128 (to_z w64 (of_z w64 c.args.y))) in
    fits_signed_mul w128 x y (2 ^ 63) (2 ^ 63) (omega (arith, ints)) (omega (arith, ints)) (omega arith)

pub returns : goal.returns
returns c =
    let fits = fits_signed_mul w128 c.args.x c.args.y (2 ^ 63) (2 ^ 63) (omega (arith, ints)) (omega (arith, ints))
    (omega arith) in
    ap (λ z. to_z w128 (of_z w128 z)) (λ i. wide c.args.x c.ranges.x i *ℤ wide c.args.y c.ranges.y i)
    ∙ to_z-of_z w128 (c.args.x *ℤ c.args.y) fits
