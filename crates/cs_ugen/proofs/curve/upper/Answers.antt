use Rattle.std.proofs.Common.{◌≡◌, ◌*◌, pos, to_z, of_z, w64, ap, ◌∙◌, arith, rules}
use Rattle.std.proofs.lemmas.Int.{ints, to_z-of_z}
use Rattle.cs_base.specs.Numbers.{floor_div}
use Rattle.cs_gen.proofs.Quotients.{floor_div_within}
use Rattle.cs_signal.proofs.Products.{IsProduct, product}
use Rattle.cs_ugen.proofs.curve.upper.Goals as goal

exact : (c : goal.After-from) → IsProduct w64 (to_z w64 (of_z w64 c.floored.result)) (to_z w64 (of_z w64 c.from.result))
    (floor_div c.args.difference (pos 65536)) (pos c.args.fraction) (4294967296 * 65535)
exact c =
    let wide : to_z w64 (of_z w64 c.floored.result) ≡ c.floored.result = omega (arith, ints) in
    let fraction : to_z w64 (of_z w64 c.from.result) ≡ pos c.args.fraction = omega (arith, ints) in
    let near = c.requires.bounded in
    let few = c.requires.fraction in
    product w64 _ _ (floor_div c.args.difference (pos 65536)) (pos c.args.fraction) 4294967296 65535
    (wide ∙ c.floored.ensures ∙ ap (λ z. floor_div z (pos 65536)) (to_z-of_z w64 c.args.difference c.ranges.difference))
    fraction (floor_div_within c.args.difference 4294967296 65536 (omega arith) (omega (arith, near)))
    (omega (arith, ints, few)) (search rules)

pub overflow_mul-result : goal.overflow_mul-result
overflow_mul-result c = (exact c).fits

pub returns-clause-value : goal.returns-clause-value
returns-clause-value c = (exact c).value

pub returns-clause-bounded : goal.returns-clause-bounded
returns-clause-bounded c = let most = (exact c).bounded in omega (arith, most)
