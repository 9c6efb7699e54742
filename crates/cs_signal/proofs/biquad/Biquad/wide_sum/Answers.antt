use mir.Syntax.{w128}
use Rattle.std.proofs.Common.{◌≡◌, ◌+◌, ◌^◌, ◌≤◌, ◌+ℤ◌, ◌-ℤ◌, unsigned_abs, to_z, of_z, ap, ◌∙◌, arith, rules}
use Rattle.std.proofs.lemmas.Int.{ints}
use Rattle.cs_signal.specs.inner.Short.{sum_of}
use Rattle.cs_signal.proofs.Products.{both_within, same, within}
use Rattle.cs_signal.proofs.biquad.Biquad.wide_sum.Goals as goal

pub plus-requires-clause-x : goal.plus-requires-clause-x
plus-requires-clause-x c =
    within w128 c.products.result (2 ^ 95) (2 ^ 125) c.products.ensures.bounded (search rules) (search rules)

pub plus-requires-clause-y : goal.plus-requires-clause-y
plus-requires-clause-y c =
    within w128 c.product.result (2 ^ 94) (2 ^ 113) c.product.ensures.bounded (search rules) (search rules)

pub less-requires-clause-x : goal.less-requires-clause-x
less-requires-clause-x c =
    within w128 c.plus.result (2 ^ 95 + 2 ^ 94) (2 ^ 96)
    (both_within w128 c.plus.result c.products.result c.product.result (2 ^ 95) (2 ^ 94) c.plus.ensures.bounded
    c.products.ensures.bounded c.product.ensures.bounded (search rules) (search rules)) (search rules) (search rules)

pub less-requires-clause-y : goal.less-requires-clause-y
less-requires-clause-y c =
    within w128 c.products-2.result (2 ^ 95) (2 ^ 96) c.products-2.ensures.bounded (search rules) (search rules)

plus_within : (c : goal.After-less) → unsigned_abs c.plus.result ≤ 2 ^ 95 + 2 ^ 94
plus_within c =
    both_within w128 c.plus.result c.products.result c.product.result (2 ^ 95) (2 ^ 94) c.plus.ensures.bounded
    c.products.ensures.bounded c.product.ensures.bounded (search rules) (search rules)

pub returns-clause-value : goal.returns-clause-value
returns-clause-value c =
    let result : to_z w128 (of_z w128 c.less.result) ≡ c.less.result = omega (arith, ints) in
    let two = same w128 c.products.result (2 ^ 95) c.products.ensures.bounded (search rules) in
    let third = same w128 c.product.result (2 ^ 94) c.product.ensures.bounded (search rules) in
    let three = same w128 c.plus.result (2 ^ 95 + 2 ^ 94) (plus_within c) (search rules) in
    let less = same w128 c.products-2.result (2 ^ 95) c.products-2.ensures.bounded (search rules) in
    result ∙ c.less.ensures.value ∙ (λ i. (three ∙ c.plus.ensures.value
    ∙ (λ i. (two ∙ c.products.ensures.value) i +ℤ (third ∙ c.product.ensures.value) i)) i
    -ℤ (less ∙ c.products-2.ensures.value) i) ∙ ap (λ s. sum_of c.args.by.now s c.args.x) c.self.view_is

pub returns-clause-bounded : goal.returns-clause-bounded
returns-clause-bounded c =
    within w128 c.less.result ((2 ^ 95 + 2 ^ 94) + 2 ^ 95) (2 ^ 97)
    (both_within w128 c.less.result c.plus.result c.products-2.result (2 ^ 95 + 2 ^ 94) (2 ^ 95) c.less.ensures.bounded
    (plus_within c) c.products-2.ensures.bounded (search rules) (search rules)) (search rules) (search rules)
