use Rattle.std.proofs.Common.{List, ℕ, ℤ, pos, get_or, take, flat_map, codes, decimal, [], sym, ◌≡◌, append-nil, ◌++◌}
use Rattle.std.proofs.Common.{arith, to_z, of_z, w64}
use Rattle.std.proofs.lemmas.Int.{ints}
use Rattle.cs_edge.specs.Taps.{mirror_line, mirror_value}
use Rattle.cs_edge.proofs.Lines.{shows_as, shows_none, values_more, values_end}
use Rattle.cs_edge.proofs.fakes.mirror.put_mirror.Goals as goal

pub loop-z-init : goal.loop-z-init
loop-z-init c =
    let text : List ℕ = codes "mirror " ++ decimal c.args.count in
    shows_as _ _ text _ (sym (append-nil text))
    (c.add_number-used.ensures (codes "mirror ") (c.add_piece-used.ensures [] (shows_none c.args.out.now)))

pub loop-z-preserved : goal.loop-z-preserved
loop-z-preserved c =
    let z : ℤ = get_or c.args.kept.now c.loop-z.z-index (pos 0) in
    let cast : to_z w64 (of_z w64 z) ≡ z = omega (arith, ints) in
    let head : List ℕ = codes "mirror " ++ decimal c.args.count in
    let before : List ℕ = head ++ flat_map mirror_value (take c.loop-z.z-index c.args.kept.now) in
    shows_as _ _ _ _ (values_more head c.args.kept.now c.loop-z.z-index (to_z w64 (of_z w64 z)) c.loop-z-test.true cast)
    (c.add_signed-used.ensures (before ++ codes " ") (c.add_piece-used-in-loop-z.ensures before c.loop-z.invariant))

pub returns : goal.returns
unfolding mirror_line
returns c =
    let before : List ℕ = (codes "mirror " ++ decimal c.args.count) ++ flat_map mirror_value
    (take c.loop-z.z-index c.args.kept.now) in
    shows_as _ _ (before ++ codes "\n") _
    (values_end (codes "mirror ") (decimal c.args.count) (codes "\n") c.args.kept.now c.loop-z.z-index
    c.loop-z-test.false) (c.add_piece.ensures before c.loop-z.invariant)
