use Rattle.std.proofs.Common.{◌≡◌, ◌<◌, ◌^◌, ◌*ℤ◌, FitsSigned, unsigned_abs, to_z, of_z, w64, arith, rules, sym}
use Rattle.std.proofs.Common.{subst, ◌∙◌}
use Rattle.std.proofs.lemmas.Int.{ints, to_z-of_z, fits_signed_mul}
use Rattle.std.specs.Int.{int_div_euclid}
use mir.Syntax.{w128}
use Rattle.cs_wav.proofs.sample.wide_level.Goals as goal

-- the quotient is exact and has fewer than 63 bits
quotient : (c : goal.After-div_euclid)
    → (c.div_euclid.result ≡ int_div_euclid (c.args.value *ℤ c.args.full) c.args.dbfs)
    × (unsigned_abs c.div_euclid.result < 2 ^ 62)
quotient c =
    let value : to_z w128 (of_z w128 c.from.result) ≡ c.args.value = omega (arith, ints) in
    let full : to_z w128 (of_z w128 c.from-2.result) ≡ c.args.full = omega (arith, ints) in
    let dbfs : to_z w128 (of_z w128 c.from-3.result) ≡ c.args.dbfs = omega (arith, ints) in
    let fits : FitsSigned w128 (c.args.value *ℤ c.args.full) =
    fits_signed_mul w128 c.args.value c.args.full (2 ^ 63) (2 ^ 63) (search rules) (search rules) (search rules) in
    let exact : c.div_euclid.result ≡ int_div_euclid (c.args.value *ℤ c.args.full) c.args.dbfs =
    rw (value, full, dbfs, to_z-of_z w128 (c.args.value *ℤ c.args.full) fits) at c.div_euclid.ensures in
    (exact, subst (λ z. unsigned_abs z < 2 ^ 62) (sym exact) c.requires.bounded)

pub overflow_mul-from : goal.overflow_mul-from
overflow_mul-from c =
    let value = to_z w128 (of_z w128 c.from.result) in
    let full = to_z w128 (of_z w128 c.from-2.result) in
    fits_signed_mul w128 value full (2 ^ 63) (2 ^ 63) (omega (arith, ints)) (omega (arith, ints)) (omega arith)

pub div_euclid-requires : goal.div_euclid-requires
div_euclid-requires c = record { nonzero = omega (arith, ints); no_overflow = λ e _. omega (arith, ints, e) }

pub overflow_cast-result : goal.overflow_cast-result
overflow_cast-result c = let small = (quotient c).1 in omega (arith, ints, small)

pub returns : goal.returns
returns c =
    let both = quotient c in
    let same : to_z w64 (of_z w64 (to_z w128 (of_z w128 c.div_euclid.result))) ≡ c.div_euclid.result =
    omega (arith, ints, both.1) in
    same ∙ both.0
