use Rattle.std.proofs.Common.{◌≡◌, ◌-ℤ◌, to_z, of_z, arith}
use Rattle.std.specs.Int.{w128}
use Rattle.std.proofs.lemmas.Int.{ints}
use Rattle.cs_base.specs.Numbers.{least, greatest}
use Rattle.cs_gen.proofs.Quotients.{on_line}
use Rattle.cs_gen.proofs.segments.on_line.Goals as goal

pub moved-requires : goal.moved-requires
moved-requires c =
    let rise : to_z w128 (of_z w128 c.difference.result) ≡ c.args.next -ℤ c.args.value =
    omega (arith, ints, c.difference.ensures) in
    let part = rw rise at c.part.ensures in
    let line = on_line least greatest c.args.value c.args.next c.args.into c.args.length c.requires.inside
    c.requires.value.0 c.requires.next.0 c.requires.value.1 c.requires.next.1 in
    (omega (arith, ints, part, line.0), omega (arith, ints, part, line.1))
