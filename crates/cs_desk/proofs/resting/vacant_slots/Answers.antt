use Rattle.std.proofs.Common.{◌≡◌, ◌++◌, ◌∷◌, [], ap, ◌∙◌, arith, length, replicate}
use Rattle.std.proofs.lemmas.List.{length-replicate, replicate-append-replicate}
use Rattle.cs_board.specs.declared.view.Berth.TheVariants.{Vacant}
use Rattle.cs_desk.proofs.resting.vacant_slots.Goals as goal

pub loop-preserved : goal.loop-preserved
loop-preserved g c = (
  omega (arith, c.loop-test.true),
  c.push_reserved.ensures.items ∙ ap (λ l. l ++ Vacant ∷ []) c.loop.invariant.1
      ∙ replicate-append-replicate c.loop.counter 1 Vacant,
  omega (arith, c.push_reserved.ensures.capacity, c.loop.invariant.2),
)

pub push_reserved-requires : goal.push_reserved-requires
push_reserved-requires g c =
    let long : length c.loop.slots.items ≡ c.loop.counter =
    ap length c.loop.invariant.1 ∙ length-replicate c.loop.counter Vacant in
    omega (arith, c.loop-test.true, c.loop.invariant.2, long)

pub returns : goal.returns
returns g c =
    c.loop.invariant.1 ∙ ap (λ n. replicate n Vacant) (omega (arith, c.loop-test.false, c.loop.invariant.0))
