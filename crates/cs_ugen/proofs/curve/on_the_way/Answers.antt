use Rattle.std.proofs.Common.{◌≡◌, ◌-ℤ◌, to_z, of_z, w64, arith}
use Rattle.std.proofs.lemmas.Int.{ints}
use Rattle.cs_ugen.proofs.Quotients.{by_parts}
use Rattle.cs_ugen.proofs.curve.on_the_way.Goals as goal

pub moved-requires-clause-part : goal.moved-requires-clause-part
moved-requires-clause-part c =
    let rise : to_z w64 (of_z w64 (to_z w64 (of_z w64 c.raw.result) -ℤ to_z w64 (of_z w64 c.raw-2.result)))
    ≡ c.args.next -ℤ c.args.here = omega (arith, ints) in
    let parts = by_parts (c.args.next -ℤ c.args.here) c.args.fraction in
    let upper = rw rise at c.upper.ensures.value in
    let lower = rw rise at c.lower.ensures.value in
    omega (arith, ints, parts, upper, lower)
