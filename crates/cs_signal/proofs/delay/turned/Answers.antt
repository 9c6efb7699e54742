use Rattle.std.proofs.Common.{◌≡◌, ◌<◌, ◌≤◌, ◌+◌, ◌∷◌, [], ℕ, length, map, take, drop, refl, sym, ap, ◌∙◌, subst, arith}
use Rattle.std.proofs.Common.{length-drop}
use Rattle.std.specs.List.{range_with_len}
use Rattle.std.proofs.lemmas.{List.length-take-le, List.FromFn.length-map-range_with_len}
use Rattle.cs_signal.specs.{Operands.operand_at, Delay.delay_step, Walk.HasRun}
use Rattle.cs_signal.specs.inner.Ring.{IsWrapped, in_order}
use Rattle.cs_signal.proofs.Rings.{inside_ring, passed, spliced, wraps}
use Rattle.cs_signal.proofs.Walks.{HasRun_end, HasRun_many}
use Rattle.cs_signal.proofs.delay.turned.Goals as goal

pub loop-frame-init : goal.loop-frame-init
loop-frame-init c = (c.requires.oldest, refl, refl, λ first h. h)

pub loop-frame-preserved : goal.loop-frame-preserved
loop-frame-preserved c =
    let so_far = c.loop-frame.invariant in
    let ring = c.loop-frame.ring in
    let ring' = c.exchanged.new.ring in
    let out = c.loop-frame.out in
    let place : ℕ = c.loop-frame.place in
    let frame : ℕ = c.loop-frame.frame in
    let count : ℕ = c.min-count.result in
    let next : ℕ = c.wrapped-place.result in
    let n : ℕ = length c.args.out.now in
    let inside = c.loop-frame-test.true in
    let sizes = c.min-count.ensures in
    let old = take count (drop place ring) in
    let new = map (operand_at c.args.x.now) (range_with_len frame count) in
    let room : place + count ≤ length ring = omega (arith, sizes, so_far.0) in
    let fits : frame + count ≤ length out = omega (arith, sizes, inside) in
    let fits' : frame + count ≤ n = omega (arith, fits, so_far.2) in
    let left = length-drop place ring in
    let leaves : length old ≡ count = length-take-le count (drop place ring) (omega (arith, left, room)) in
    let comes : length new ≡ count = length-map-range_with_len (operand_at c.args.x.now) frame count in
    let long : length ring' ≡ length ring =
    ap length c.exchanged.ensures.ring ∙ spliced ring new place count room comes in
    let long_out : length c.exchanged.new.out ≡ length out =
    ap length c.exchanged.ensures.out ∙ spliced out old frame count fits leaves in
    let round = c.wrapped-place.ensures in
    let round' : IsWrapped (place + count) (length ring) next =
    subst (λ k. IsWrapped (place + count) k next) long round in (
      subst (λ k. next < k) (sym long)
          (inside_ring (place + count) (length ring) next room (omega (arith, so_far.0)) round'),
      long ∙ so_far.1,
      long_out ∙ so_far.2,
      λ first h. subst
          (λ o. HasRun delay_step (λ j. operand_at c.args.x.now j ∷ []) first n (frame + count) (in_order ring' next) o)
          (sym c.exchanged.ensures.out)
          (HasRun_many delay_step (λ j. operand_at c.args.x.now j ∷ []) first n frame count (in_order ring place)
          (in_order ring' next) out old (so_far.3 first h) fits' leaves
          (passed (operand_at c.args.x.now) ring place count frame room
          ∙ ap (λ r. (in_order r (place + count), old)) (sym c.exchanged.ensures.ring)
          ∙ ap (λ l. (l, old)) (wraps ring' (place + count) next round))),
    )

pub returns-clause-run : goal.returns-clause-run
returns-clause-run c = λ first h.
    HasRun_end delay_step (λ j. operand_at c.args.x.now j ∷ []) first (length c.args.out.now) c.loop-frame.frame
    (in_order c.loop-frame.ring c.loop-frame.place) c.loop-frame.out (c.loop-frame.invariant.3 first h)
    (omega (arith, c.loop-frame-test.false, c.loop-frame.invariant.2))
