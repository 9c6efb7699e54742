use mir.Syntax.{w128}
use Rattle.std.proofs.Common.{◌≡◌, ◌*◌, pos, to_z, of_z, arith, rules, subst}
use Rattle.std.proofs.lemmas.Int.{ints}
use Rattle.cs_base.specs.Numbers.{IsRaw}
use Rattle.cs_signal.proofs.Products.{IsProduct, product, raw_within}
use Rattle.cs_ugen.proofs.phase.times.Goals as goal

exact : (c : goal.After-from-2)
    → IsProduct w128 (to_z w128 (of_z w128 c.from.result)) (to_z w128 (of_z w128 c.from-2.result)) c.args.cps
    (pos c.args.factor) (140737488355328 * 1048576)
exact c =
    let cps : to_z w128 (of_z w128 c.from.result) ≡ c.args.cps = omega (arith, ints) in
    let factor : to_z w128 (of_z w128 c.from-2.result) ≡ pos c.args.factor = omega (arith, ints) in
    let few = c.requires in
    product w128 _ _ c.args.cps (pos c.args.factor) 140737488355328 1048576 cps factor
    (raw_within c.args.cps (subst IsRaw c.raw.ensures.value c.raw.ensures.in_range)) (omega (arith, ints, few))
    (search rules)

pub overflow_mul-result : goal.overflow_mul-result
overflow_mul-result c = (exact c).fits

pub returns-clause-value : goal.returns-clause-value
returns-clause-value c = (exact c).value

pub returns-clause-bounded : goal.returns-clause-bounded
returns-clause-bounded c = let most = (exact c).bounded in omega (arith, most)
