use Rattle.std.proofs.Common.{◌≡◌, ◌<◌, ◌^◌, ◌*ℤ◌, arith, of_z, subst, sym, to_z, unsigned_abs, w64}
use Rattle.std.proofs.lemmas.Int.{ints}
use Rattle.cs_base.specs.Numbers.{IsRaw}
use Rattle.cs_machine.proofs.pairs.product.Goals as goal

pub overflow_mul-raw : goal.overflow_mul-raw
overflow_mul-raw c =
    let a = c.raw.result in
    let b = c.raw-2.result in
    let left : to_z w64 (of_z w64 a) ≡ a = omega (arith, ints, c.raw.ensures.in_range) in
    let right : to_z w64 (of_z w64 b) ≡ b = omega (arith, ints, c.raw-2.ensures.in_range) in
    let narrow : unsigned_abs (c.args.x *ℤ c.args.y) < 2 ^ 63 =
    c.requires (subst IsRaw c.raw.ensures.value c.raw.ensures.in_range)
    (subst IsRaw c.raw-2.ensures.value c.raw-2.ensures.in_range) in
    let product : unsigned_abs (to_z w64 (of_z w64 a) *ℤ to_z w64 (of_z w64 b)) < 2 ^ 63 =
    subst (λ z. unsigned_abs (z *ℤ to_z w64 (of_z w64 b)) < 2 ^ 63) (sym left)
    (subst (λ z. unsigned_abs (a *ℤ z) < 2 ^ 63) (sym right)
    (subst (λ z. unsigned_abs (a *ℤ z) < 2 ^ 63) (sym c.raw-2.ensures.value)
    (subst (λ z. unsigned_abs (z *ℤ c.args.y) < 2 ^ 63) (sym c.raw.ensures.value) narrow))) in
    omega (arith, ints, product)
