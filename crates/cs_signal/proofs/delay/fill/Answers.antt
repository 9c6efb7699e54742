use Rattle.std.proofs.Common.{◌++◌, ◌∷◌, [], length, refl, ap, ◌∙◌, arith}
use Rattle.std.proofs.lemmas.List.{length-append}
use Rattle.cs_signal.specs.{Operands.operand_at, Delay.delay_step, inner.Ring.line_in}
use Rattle.cs_signal.proofs.{Rings.fills, Walks.HasRun_none, Walks.HasRun_step}
use Rattle.cs_signal.proofs.delay.fill.Goals as goal

pub loop-j-init : goal.loop-j-init
loop-j-init c = (
  HasRun_none delay_step (λ j. operand_at c.args.x.now j ∷ []) (line_in c.args.count c.args.ring.now.items 0)
      (length c.args.out.now) c.args.out.now refl,
  omega arith,
  c.requires.memory,
)

pub push_reserved-requires : goal.push_reserved-requires
push_reserved-requires c =
    let so_far = c.loop-j.invariant in
    let inside = c.loop-j-test.true in
    let some = c.requires.some in
    let len = c.loop-j.ring.ok.0 in
    let was = c.args.ring.now.ok.0 in
    omega (arith, so_far.1, so_far.2, inside, some, len, was)

pub loop-j-preserved : goal.loop-j-preserved
loop-j-preserved c =
    let so_far = c.loop-j.invariant in
    let inside = c.loop-j-test.true in
    let ring = c.loop-j.ring.items in
    let was = c.args.ring.now.ok.0 in
    let pushed = c.push_reserved.ensures.items in
    let long = length-append ring (c.at.result ∷ []) in
    let size = ap (λ l. length l) pushed in (
      HasRun_step delay_step (λ j. operand_at c.args.x.now j ∷ []) (line_in c.args.count c.args.ring.now.items 0)
          (length c.args.out.now) c.loop-j.j
          (line_in c.args.count ring 0) (line_in c.args.count c.push_reserved.new.self.items 0) c.loop-j.out
          c.of_raw.result so_far.0 (omega (arith, inside)) (ap (λ l. (line_in c.args.count l 0, c.of_raw.result)) pushed
          ∙ ap (λ y. (line_in c.args.count (ring ++ c.at.result ∷ []) 0, y)) c.of_raw.ensures
          ∙ fills c.args.count ring c.at.result (omega (arith, so_far.1, inside, was))
          ∙ ap (λ z. delay_step (line_in c.args.count ring 0) (z ∷ [])) c.at.ensures),
      omega (arith, so_far.1, long, size),
      omega (arith, so_far.2, c.push_reserved.ensures.capacity),
    )
