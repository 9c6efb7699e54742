use Rattle.std.proofs.Common.{◌≡◌, ◌*◌, to_z, of_z, arith, rules, subst}
use mir.Syntax.{w128}
use Rattle.std.proofs.lemmas.Int.{ints}
use Rattle.cs_base.specs.Numbers.{IsRaw}
use Rattle.cs_signal.proofs.Products.{IsProduct, product, raw_within}
use Rattle.cs_signal.proofs.biquad.product.Goals as goal

exact : (c : goal.After-from-2)
    → IsProduct w128 (to_z w128 (of_z w128 c.from.result)) (to_z w128 (of_z w128 c.from-2.result)) c.args.x c.args.y
    (140737488355328 * 140737488355328)
exact c =
    let x : to_z w128 (of_z w128 c.from.result) ≡ c.args.x = omega (arith, ints) in
    let y : to_z w128 (of_z w128 c.from-2.result) ≡ c.args.y = omega (arith, ints) in
    product w128 _ _ c.args.x c.args.y 140737488355328 140737488355328 x y
    (raw_within c.args.x (subst IsRaw c.raw.ensures.value c.raw.ensures.in_range))
    (raw_within c.args.y (subst IsRaw c.raw-2.ensures.value c.raw-2.ensures.in_range)) (search rules)

pub overflow_mul-result : goal.overflow_mul-result
overflow_mul-result c = (exact c).fits

pub returns-clause-value : goal.returns-clause-value
returns-clause-value c = (exact c).value

pub returns-clause-bounded : goal.returns-clause-bounded
returns-clause-bounded c = let most = (exact c).bounded in omega (arith, most)
