use Rattle.std.proofs.Common.{◌≡◌, ◌≤◌, ◌*◌, ◌*ℤ◌, unsigned_abs, to_z, of_z, w64, ap, subst, sym, ◌∙◌, arith}
use Rattle.std.proofs.lemmas.Int.{ints, to_z-of_z}
use Rattle.cs_machine.specs.inner.Narrow.{IsShort}
use Rattle.cs_signal.proofs.Ramps.{product_within}
use Rattle.cs_machine.proofs.pairs.low_times.Goals as goal

pub returns : goal.returns
returns c = λ hx hy.
    let x = c.args.x in
    let y = c.args.y in
    let left : unsigned_abs x ≤ 2147483648 = omega (arith, ints, hx.0, hx.1) in
    let right : unsigned_abs y ≤ 2147483648 = omega (arith, ints, hy.0, hy.1) in
    let small : unsigned_abs (x *ℤ y) ≤ 2147483648 * 2147483648 = product_within x y 2147483648 2147483648 left right in
    let whole : to_z w64 (of_z w64 (x *ℤ y)) ≡ x *ℤ y = omega (arith, ints, small) in
    let ex : to_z w64 (of_z w64 x) ≡ x = to_z-of_z w64 x c.ranges.x in
    let ey : to_z w64 (of_z w64 y) ≡ y = to_z-of_z w64 y c.ranges.y in
    let low : c.low.result ≡ x = c.low.ensures.value (subst IsShort (sym ex) hx) ∙ ex in
    let other : c.low-2.result ≡ y = c.low-2.ensures.value (subst IsShort (sym ey) hy) ∙ ey in
    ap (λ z. to_z w64 (of_z w64 (to_z w64 (of_z w64 z) *ℤ to_z w64 (of_z w64 c.low-2.result)))) low
    ∙ ap (λ z. to_z w64 (of_z w64 (to_z w64 (of_z w64 x) *ℤ to_z w64 (of_z w64 z)))) other
    ∙ ap (λ z. to_z w64 (of_z w64 (z *ℤ to_z w64 (of_z w64 y)))) ex ∙ ap (λ z. to_z w64 (of_z w64 (x *ℤ z))) ey ∙ whole

pub overflow_mul-result : goal.overflow_mul-result
overflow_mul-result c =
    let a = c.low.result in
    let b = c.low-2.result in
    let left : to_z w64 (of_z w64 a) ≡ a = omega (arith, ints, c.low.ensures.small) in
    let right : to_z w64 (of_z w64 b) ≡ b = omega (arith, ints, c.low-2.ensures.small) in
    let product : unsigned_abs (to_z w64 (of_z w64 a) *ℤ to_z w64 (of_z w64 b)) ≤ 2147483648 * 2147483648 =
    subst (λ z. unsigned_abs (z *ℤ to_z w64 (of_z w64 b)) ≤ 2147483648 * 2147483648) (sym left)
    (subst (λ z. unsigned_abs (a *ℤ z) ≤ 2147483648 * 2147483648) (sym right)
    (product_within a b 2147483648 2147483648 c.low.ensures.small c.low-2.ensures.small)) in
    omega (arith, ints, product)
