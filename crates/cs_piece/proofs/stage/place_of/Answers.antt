use Rattle.std.proofs.Common.{◌<◌, ◌∙◌, arith, length, refl, sym, to_z, of_z, w64}
use Rattle.std.proofs.lemmas.{Int.to_z-of_z, Option.slice_get_read, Option.slice_get_within}
use Rattle.cs_piece.proofs.Readied.{none_more}
use Rattle.cs_piece.proofs.stage.place_of.Goals as goal

pub returns-then-has_number-clause-some : goal.returns-then-has_number-clause-some
returns-then-has_number-clause-some c =
    let xs = c.args.instruments.now in
    let x = c.index-instruments-place.result in
    let low : c.loop-place.place < length xs = omega arith in (
      low,
      x,
      slice_get_read xs (length xs) c.loop-place.place x refl low c.index-instruments-place.is,
      c.has_number.ensures.same c.if-has_number.true ∙ to_z-of_z w64 c.args.number c.ranges.number,
    )

pub loop-place-preserved : goal.loop-place-preserved
loop-place-preserved c =
    let xs = c.args.instruments.now in
    let x = c.index-instruments-place.result in
    let low : c.loop-place.place < length xs = omega arith in
    none_more xs c.loop-place.place x (to_z w64 (of_z w64 c.args.number)) c.loop-place.invariant
    (slice_get_read xs (length xs) c.loop-place.place x refl low c.index-instruments-place.is)
    (c.has_number.ensures.other c.if-has_number.false)

pub returns-clause-none : goal.returns-clause-none
returns-clause-none c k i at n =
    let low : k < length c.args.instruments.now = slice_get_within c.args.instruments.now k i at in
    c.loop-place.invariant k i (omega arith) at (n ∙ sym (to_z-of_z w64 c.args.number c.ranges.number))
