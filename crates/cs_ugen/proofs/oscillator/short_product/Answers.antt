use Rattle.std.proofs.Common.{◌≡◌, pos, ◌*ℤ◌, to_z, of_z, w64, ap, sym, ◌∙◌, subst, arith, rules}
use Rattle.std.proofs.lemmas.Int.{ints, to_z-of_z}
use Rattle.cs_base.specs.Numbers.{IsRaw, floor_div}
use Rattle.cs_base.proofs.Arithmetic.{clamp_same}
use Rattle.cs_ugen.specs.Points.{IsShort}
use Rattle.cs_ugen.proofs.Shorts.{short_ratio}
use Rattle.cs_ugen.proofs.oscillator.short_product.Goals as goal

pub times-requires-clause-x : goal.times-requires-clause-x
times-requires-clause-x c =
    subst IsShort (sym (to_z-of_z w64 c.raw.result (search rules) ∙ c.raw.ensures.value)) c.requires.x

pub times-requires-clause-y : goal.times-requires-clause-y
times-requires-clause-y c =
    subst IsShort (sym (to_z-of_z w64 c.raw-2.result (search rules) ∙ c.raw-2.ensures.value)) c.requires.y

exact : (c : goal.After-floored) → to_z w64 (of_z w64 c.floored.result) ≡ floor_div (c.args.x *ℤ c.args.y) (pos 65536)
exact c =
    let x = to_z-of_z w64 c.raw.result (search rules) ∙ c.raw.ensures.value in
    let y = to_z-of_z w64 c.raw-2.result (search rules) ∙ c.raw-2.ensures.value in
    let times : to_z w64 (of_z w64 c.times.result) ≡ c.times.result = omega (arith, ints) in
    let floored : to_z w64 (of_z w64 c.floored.result) ≡ c.floored.result = omega (arith, ints) in
    floored ∙ c.floored.ensures ∙ ap (λ z. floor_div z (pos 65536)) (times ∙ c.times.ensures.value ∙ (λ i. x i *ℤ y i))

pub exact-requires : goal.exact-requires
exact-requires c = subst IsRaw (sym (exact c)) (short_ratio c.args.x c.args.y c.requires.x c.requires.y)

pub returns : goal.returns
returns c =
    c.exact.ensures ∙ exact c.before ∙ sym (clamp_same (floor_div (c.args.x *ℤ c.args.y) (pos 65536))
    (short_ratio c.args.x c.args.y c.requires.x c.requires.y))
