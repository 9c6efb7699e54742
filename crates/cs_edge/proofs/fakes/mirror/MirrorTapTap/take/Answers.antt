use Rattle.std.proofs.Common.{ℤ, List, pos, get_or, ◌≡◌, ◌∙◌, subst, arith, to_z, of_z, w64}
use Rattle.std.proofs.lemmas.Int.{ints}
use Rattle.cs_edge.specs.{Taps.IsMirrorOf, Mirror.room_of, Mirror.kept_of, Mirror.count_of}
use Rattle.cs_edge.proofs.Lines.{told_more}
use Rattle.cs_edge.proofs.fakes.mirror.MirrorTapTap.take.Goals as goal

pub loop-z-preserved : goal.loop-z-preserved
loop-z-preserved c =
    let z : ℤ = get_or c.args.frames.now c.loop-z.z-index (pos 0) in
    let cast : to_z w64 (of_z w64 z) ≡ z = omega (arith, ints) in (
      λ h m. subst (λ (l : List ℤ). IsMirrorOf (room_of c.tell.new.self) (kept_of c.tell.new.self)
          (count_of c.tell.new.self) l)
          (told_more h c.args.frames.now c.loop-z.z-index (to_z w64 (of_z w64 z)) c.loop-z-test.true cast)
          (c.tell.ensures.mirror _ (c.loop-z.invariant.0 h m)),
      c.tell.ensures.room ∙ c.loop-z.invariant.1,
    )
