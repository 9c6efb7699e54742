use Rattle.std.proofs.Common.{◌^◌, ◌≤◌, ◌*ℤ◌, ◌∙◌, pos, unsigned_abs, of_z, to_z, w64, ap, subst, sym, arith}
use Rattle.std.specs.Int.{int_div_euclid}
use Rattle.std.proofs.lemmas.Int.{fits_signed_mul, ints, to_z-of_z}
use Rattle.cs_gen.proofs.Quotients.{floor_div_within, product_within}
use Rattle.cs_gen.proofs.harmonics.scaled.Goals as goal

pub overflow_mul-strength : goal.overflow_mul-strength
overflow_mul-strength c =
    let s = to_z w64 (of_z w64 c.args.strength) in
    let h = to_z w64 (of_z w64 c.args.height) in
    fits_signed_mul w64 s h (2 ^ 47) 32767 (omega (arith, ints, c.requires.strong))
    (omega (arith, ints, c.requires.high)) (omega arith)

pub returns : goal.returns
returns c =
    let s = c.args.strength in
    let h = c.args.height in
    let fits = fits_signed_mul w64 s h (2 ^ 47) 32767 c.requires.strong c.requires.high (omega arith) in
    let product = ap (λ z. to_z w64 (of_z w64 z)) (λ i. to_z-of_z w64 s c.ranges.strength i
    *ℤ to_z-of_z w64 h c.ranges.height i) ∙ to_z-of_z w64 (s *ℤ h) fits in
    let value = to_z-of_z w64 c.div_euclid.result (record { sfits = c.div_euclid.type_inv }) ∙ c.div_euclid.ensures
    ∙ ap (λ z. int_div_euclid z (pos 32767)) product in
    record {
      value = value;
      bounded = subst (λ z. unsigned_abs z ≤ 2 ^ 47) (sym value) (floor_div_within (s *ℤ h) (2 ^ 47) 32767 (omega arith)
          (product_within s h (2 ^ 47) 32767 c.requires.strong c.requires.high));
    }
