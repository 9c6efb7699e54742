use Rattle.std.proofs.Common.{◌≡◌, unsigned_abs, w64, ap, ◌∙◌, arith}
use Rattle.std.proofs.lemmas.Int.{to_z-of_z}
use Rattle.cs_gen.proofs.Places.{accepted-range, is_made, points_of-normalised}
use Rattle.cs_gen.proofs.table.make_table.Goals as goal

pub plain_points-requires : goal.plain_points-requires
plain_points-requires c =
    let s = to_z-of_z w64 c.args.size c.ranges.size in
    let range = accepted-range c.args.size c.args.gen_ c.args.args.now _ _ s (to_z-of_z w64 c.args.gen_ c.ranges.gen_)
    c.in_default.ensures.accepted in
    let size : c.unsigned_abs.result ≡ unsigned_abs c.args.size = c.unsigned_abs.ensures.value ∙ ap unsigned_abs s in
    record { some = omega (arith, size, range.0); wide = omega (arith, size, range.1) }

pub returns-clause-made : goal.returns-clause-made
returns-clause-made c =
    let s = to_z-of_z w64 c.args.size c.ranges.size in
    let g = to_z-of_z w64 c.args.gen_ c.ranges.gen_ in
    let size : c.unsigned_abs.result ≡ unsigned_abs c.args.size = c.unsigned_abs.ensures.value ∙ ap unsigned_abs s in
    let gen : c.unsigned_abs-2.result ≡ unsigned_abs c.args.gen_ = c.unsigned_abs-2.ensures.value ∙ ap unsigned_abs g in
    let plain = rw size at (rw gen at c.in_ok-points.ensures) in
    let normal = rw g at c.normalise_for.ensures in
    is_made c.args.size c.args.gen_ c.args.args.now _
    (accepted-range c.args.size c.args.gen_ c.args.args.now _ _ s g c.in_default.ensures.accepted)
    (c.from_vec.ensures ∙ normal
    ∙ points_of-normalised c.args.size c.args.gen_ c.args.args.now c.in_ok-points.points.items plain)
