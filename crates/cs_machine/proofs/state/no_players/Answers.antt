use Rattle.std.proofs.Common.{◌≡◌, ◌∙◌, ◌++◌, ◌∷◌, [], None, ap, arith, length, replicate}
use Rattle.std.proofs.lemmas.List.{length-replicate, replicate-append-replicate}
use Rattle.cs_machine.proofs.state.no_players.Goals as goal

pub loop-preserved : goal.loop-preserved
loop-preserved c = (
  omega (arith, c.loop-test.true),
  c.push_reserved.ensures.items ∙ ap (λ l. l ++ None ∷ []) c.loop.invariant.1
      ∙ replicate-append-replicate c.loop.counter 1 None,
  omega (arith, c.push_reserved.ensures.capacity, c.loop.invariant.2),
)

pub push_reserved-requires : goal.push_reserved-requires
push_reserved-requires c =
    let long : length c.loop.players.items ≡ c.loop.counter =
    ap length c.loop.invariant.1 ∙ length-replicate c.loop.counter None in
    omega (arith, c.loop-test.true, c.loop.invariant.2, long)

pub returns : goal.returns
returns c = c.loop.invariant.1 ∙ ap (λ n. replicate n None) (omega (arith, c.loop-test.false, c.loop.invariant.0))
