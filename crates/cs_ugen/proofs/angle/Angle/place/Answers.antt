use Rattle.std.proofs.Common.{◌*◌, ◌<◌, sym, ◌∙◌, subst, arith}
use Rattle.cs_ugen.proofs.Angles.{place_inside, place_of, product_below}
use Rattle.cs_ugen.proofs.angle.Angle.place.Goals as goal

pub upper-requires : goal.upper-requires
upper-requires c =
    let is = c.times.ensures.value in
    let few = c.requires.few in
    let most = product_below c.args.self c.args.len c.times.ensures.small in
    omega (arith, is, few, most)

pub returns-clause-value : goal.returns-clause-value
returns-clause-value c = c.upper.ensures ∙ place_of c.times.result (c.args.self * c.args.len) c.times.ensures.value

pub returns-clause-inside : goal.returns-clause-inside
returns-clause-inside c =
    subst (λ p. p < c.args.len) (sym (returns-clause-value c))
    (place_inside c.args.self c.args.len c.times.ensures.small c.requires.some)
