use mir.Syntax.{w128}
use Rattle.std.proofs.Common.{◌≡◌, ◌^◌, ◌+ℤ◌, unsigned_abs, to_z, of_z, ap, ◌∙◌, arith, rules}
use Rattle.std.proofs.lemmas.Int.{ints}
use Rattle.cs_signal.proofs.Products.{same}
use Rattle.cs_signal.proofs.biquad.products.Goals as goal

pub returns-clause-value : goal.returns-clause-value
returns-clause-value c =
    let result : to_z w128 (of_z w128 c.plus.result) ≡ c.plus.result = omega (arith, ints) in
    let first = same w128 c.product.result (2 ^ 94) c.product.ensures.bounded (search rules) in
    let second = same w128 c.product-2.result (2 ^ 94) c.product-2.ensures.bounded (search rules) in
    result ∙ c.plus.ensures.value ∙ (λ i. (first ∙ c.product.ensures.value) i +ℤ (second ∙ c.product-2.ensures.value) i)

pub returns-clause-bounded : goal.returns-clause-bounded
returns-clause-bounded c =
    let result : to_z w128 (of_z w128 c.plus.result) ≡ c.plus.result = omega (arith, ints) in
    let first = ap unsigned_abs (same w128 c.product.result (2 ^ 94) c.product.ensures.bounded (search rules)) in
    let second = ap unsigned_abs (same w128 c.product-2.result (2 ^ 94) c.product-2.ensures.bounded (search rules)) in
    let most = c.plus.ensures.bounded in
    let x = c.product.ensures.bounded in
    let y = c.product-2.ensures.bounded in
    let size = ap unsigned_abs result in
    omega (arith, first, second, most, x, y, size)
