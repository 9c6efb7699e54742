use Rattle.std.proofs.Common.{◌≡◌, ◌+ℤ◌, FitsSigned, to_z, of_z, w64, ap, sym, ◌∙◌, subst, arith}
use Rattle.std.proofs.lemmas.Int.{ints, to_z-of_z}
use Rattle.cs_base.specs.Numbers.{IsRaw, least, greatest}
use Rattle.cs_gen.proofs.Quotients.{on_line}
use Rattle.cs_ugen.proofs.curve.moved.Goals as goal

between : (c : goal.After-raw) → IsRaw (c.args.here +ℤ c.args.part)
between c =
    let here = c.requires.here in
    let next = c.requires.next in
    subst (λ z. IsRaw (c.args.here +ℤ z)) (sym c.requires.part)
    (on_line least greatest c.args.here c.args.next c.args.fraction 65536 c.requires.fraction here.0 next.0 here.1
    next.1)

fits : (c : goal.After-raw) → FitsSigned w64 (c.args.here +ℤ c.args.part)
fits c = let within = between c in omega (arith, ints, within.0, within.1)

sum : (c : goal.After-raw)
    → to_z w64 (of_z w64 c.raw.result) +ℤ to_z w64 (of_z w64 c.args.part) ≡ c.args.here +ℤ c.args.part
sum c =
    let raw : to_z w64 (of_z w64 c.raw.result) ≡ c.raw.result = omega (arith, ints) in
    λ i. (raw ∙ c.raw.ensures.value) i +ℤ to_z-of_z w64 c.args.part c.ranges.part i

exact : (c : goal.After-raw) → to_z w64 (of_z w64 (to_z w64 (of_z w64 c.raw.result) +ℤ to_z w64 (of_z w64 c.args.part)))
    ≡ c.args.here +ℤ c.args.part
exact c = ap (λ z. to_z w64 (of_z w64 z)) (sum c) ∙ to_z-of_z w64 (c.args.here +ℤ c.args.part) (fits c)

pub overflow_add-raw : goal.overflow_add-raw
overflow_add-raw c = subst (FitsSigned w64) (sym (sum c)) (fits c)

pub exact-requires : goal.exact-requires
exact-requires c = subst IsRaw (sym (exact c)) (between c)

pub returns : goal.returns
returns c = c.exact.ensures ∙ exact c.before ∙ ap (λ z. c.args.here +ℤ z) c.requires.part
