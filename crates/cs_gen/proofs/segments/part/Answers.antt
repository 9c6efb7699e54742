use Rattle.std.proofs.Common.{◌≡◌, ◌^◌, ◌*ℤ◌, ◌∙◌, pos, of_z, to_z, ap, arith}
use Rattle.std.specs.Int.{int_div_euclid, w128}
use Rattle.std.proofs.lemmas.Int.{fits_signed_mul, ints, to_z-of_z}
use Rattle.cs_gen.proofs.segments.part.Goals as goal

pub overflow_mul-rise : goal.overflow_mul-rise
overflow_mul-rise c =
    let rise = to_z w128 (of_z w128 c.args.rise) in
    let into = to_z w128 (of_z w128 c.from.result) in
    fits_signed_mul w128 rise into (2 ^ 48) (2 ^ 64) (omega (arith, ints, c.requires.small))
    (omega (arith, ints, c.requires.inside, c.from.ensures)) (omega arith)

pub div_euclid-requires : goal.div_euclid-requires
div_euclid-requires c = record { nonzero = omega (arith, ints); no_overflow = λ e _. omega (arith, ints, e) }

pub returns : goal.returns
returns c =
    let rise : to_z w128 (of_z w128 c.args.rise) ≡ c.args.rise = omega (arith, ints, c.requires.small) in
    let into : to_z w128 (of_z w128 c.from.result) ≡ pos c.args.into = omega (arith, ints, c.from.ensures) in
    let length : to_z w128 (of_z w128 c.from-2.result) ≡ pos c.args.length = omega (arith, ints, c.from-2.ensures) in
    let fits = fits_signed_mul w128 c.args.rise (pos c.args.into) (2 ^ 48) (2 ^ 64) (omega (arith, c.requires.small))
    (omega (arith, c.requires.inside)) (omega arith) in
    let way = ap (λ z. to_z w128 (of_z w128 z)) (λ i. rise i *ℤ into i)
    ∙ to_z-of_z w128 (c.args.rise *ℤ pos c.args.into) fits in
    to_z-of_z w128 c.div_euclid.result (record { sfits = c.div_euclid.type_inv }) ∙ c.div_euclid.ensures
    ∙ (λ i. int_div_euclid (way i) (length i))
