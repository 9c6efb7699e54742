use Rattle.std.proofs.Common.{◌≡◌, ◌*◌, pos, to_z, of_z, arith, rules}
use mir.Syntax.{w128}
use Rattle.std.proofs.lemmas.Int.{ints}
use Rattle.cs_signal.proofs.Products.{IsProduct, product}
use Rattle.cs_signal.proofs.line.times.Goals as goal

exact : (c : goal.After-from-2)
    → IsProduct w128 (to_z w128 (of_z w128 c.from.result)) (to_z w128 (of_z w128 c.from-2.result)) c.args.rise
    (pos c.args.n) (281474976710655 * 9223372036854775807)
exact c =
    let rise : to_z w128 (of_z w128 c.from.result) ≡ c.args.rise = omega (arith, ints) in
    let n : to_z w128 (of_z w128 c.from-2.result) ≡ pos c.args.n = omega (arith, ints) in
    let near = c.requires.bounded in
    let number = c.requires.number in
    product w128 _ _ c.args.rise (pos c.args.n) 281474976710655 9223372036854775807 rise n (omega (arith, near))
    (omega (arith, ints, number)) (search rules)

pub overflow_mul-result : goal.overflow_mul-result
overflow_mul-result c = (exact c).fits

pub returns-clause-value : goal.returns-clause-value
returns-clause-value c = (exact c).value

pub returns-clause-bounded : goal.returns-clause-bounded
returns-clause-bounded c = let most = (exact c).bounded in omega (arith, most)
