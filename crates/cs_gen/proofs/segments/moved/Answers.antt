use Rattle.std.proofs.Common.{◌≡◌, ◌∙◌, ap, ◌+ℤ◌, to_z, of_z, w64, arith}
use Rattle.std.specs.Int.{w128}
use Rattle.std.proofs.lemmas.Int.{ints}
use Rattle.cs_base.proofs.Arithmetic.{clamp_same}
use Rattle.cs_base.specs.Numbers.{clamp}
use Rattle.cs_gen.proofs.segments.moved.Goals as goal

pub returns : goal.returns
returns c =
    let low = c.requires.0 in
    let high = c.requires.1 in
    let cast : to_z w64 (of_z w64
    (to_z w128 (of_z w128 (to_z w128 (of_z w128 c.from.result) +ℤ to_z w128 (of_z w128 c.args.rise))))) ≡ c.args.value
    +ℤ c.args.rise = omega (arith, ints, c.from.ensures) in
    c.of_raw.ensures ∙ ap clamp cast ∙ clamp_same (c.args.value +ℤ c.args.rise) c.requires
