use Rattle.std.proofs.Common.{◌*◌, to_z, of_z, w64, arith, rules}
use Rattle.std.proofs.lemmas.Int.{ints, to_z-of_z}
use Rattle.cs_signal.proofs.Products.{IsProduct, product}
use Rattle.cs_ugen.proofs.oscillator.times.Goals as goal

exact : (c : goal.Start) → IsProduct w64 (to_z w64 (of_z w64 c.args.x)) (to_z w64 (of_z w64 c.args.y)) c.args.x c.args.y
    (2147483648 * 2147483648)
exact c =
    let x = c.requires.x in
    let y = c.requires.y in
    product w64 _ _ c.args.x c.args.y 2147483648 2147483648 (to_z-of_z w64 c.args.x c.ranges.x)
    (to_z-of_z w64 c.args.y c.ranges.y) (omega (arith, ints, x.0, x.1)) (omega (arith, ints, y.0, y.1)) (search rules)

pub overflow_mul-result : goal.overflow_mul-result
overflow_mul-result c = (exact c).fits

pub returns-clause-value : goal.returns-clause-value
returns-clause-value c = (exact c).value

pub returns-clause-bounded : goal.returns-clause-bounded
returns-clause-bounded c = (exact c).bounded
