use Rattle.std.proofs.Common.{◌≡◌, ◌<◌, ◌^◌, pos, ◌-ℤ◌, ◌*ℤ◌, FitsSigned, unsigned_abs, to_z, of_z, w64, ap, sym, ◌∙◌}
use Rattle.std.proofs.Common.{subst, arith}
use Rattle.std.proofs.lemmas.Int.{fits_signed_from_abs, ints, to_z-of_z}
use Rattle.cs_base.specs.Numbers.{floor_div}
use Rattle.cs_ugen.proofs.Shorts.{short_rise}
use Rattle.cs_ugen.proofs.curve.part_of.Goals as goal

rise : (c : goal.Start)
    → to_z w64 (of_z w64 c.args.next) -ℤ to_z w64 (of_z w64 c.args.here) ≡ c.args.next -ℤ c.args.here
rise c = λ i. to_z-of_z w64 c.args.next c.ranges.next i -ℤ to_z-of_z w64 c.args.here c.ranges.here i

fits : (c : goal.Start) → FitsSigned w64 (c.args.next -ℤ c.args.here)
fits c = fits_signed_from_abs w64 (c.args.next -ℤ c.args.here)
    (let near = short_rise c.args.here c.args.next c.requires.here c.requires.next in omega (arith, near))

exact : (c : goal.Start) → to_z w64 (of_z w64 (to_z w64 (of_z w64 c.args.next) -ℤ to_z w64 (of_z w64 c.args.here)))
    ≡ c.args.next -ℤ c.args.here
exact c = ap (λ z. to_z w64 (of_z w64 z)) (rise c) ∙ to_z-of_z w64 (c.args.next -ℤ c.args.here) (fits c)

pub overflow_sub-next : goal.overflow_sub-next
overflow_sub-next c = subst (FitsSigned w64) (sym (rise c)) (fits c)

pub scaled-requires-clause-bounded : goal.scaled-requires-clause-bounded
scaled-requires-clause-bounded c =
    subst (λ z. unsigned_abs z < 2 ^ 32) (sym (exact c))
    (let near = short_rise c.args.here c.args.next c.requires.here c.requires.next in omega (arith, near))

pub returns : goal.returns
returns c =
    let result : to_z w64 (of_z w64 c.floored.result) ≡ c.floored.result = omega (arith, ints) in
    let scaled : to_z w64 (of_z w64 c.scaled.result) ≡ c.scaled.result = omega (arith, ints) in
    result ∙ c.floored.ensures ∙ ap (λ z. floor_div z (pos 65536))
    (scaled ∙ c.scaled.ensures.value ∙ ap (λ z. z *ℤ pos c.args.fraction) (exact c.before.before))
