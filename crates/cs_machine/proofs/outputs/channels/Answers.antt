use Rattle.std.proofs.Common.{◌≡◌, ◌∙◌, ◌++◌, ◌∷◌, [], ap, arith, length, pos, replicate}
use Rattle.std.proofs.lemmas.List.{length-replicate, replicate-append-replicate}
use Rattle.cs_machine.proofs.outputs.channels.Goals as goal

pub loop-preserved : goal.loop-preserved
loop-preserved c = (
  omega (arith, c.loop-test.true),
  c.push_reserved.ensures.items ∙ (λ i. c.loop.invariant.1 i ++ c.in_ok-new.ensures i ∷ [])
      ∙ replicate-append-replicate c.loop.counter 1 (replicate c.args.ksmps (pos 0)),
  omega (arith, c.push_reserved.ensures.capacity, c.loop.invariant.2),
)

pub push_reserved-requires : goal.push_reserved-requires
push_reserved-requires c =
    let long : length c.loop.all.items ≡ c.loop.counter =
    ap length c.loop.invariant.1 ∙ length-replicate c.loop.counter (replicate c.args.ksmps (pos 0)) in
    omega (arith, c.loop-test.true, c.loop.invariant.2, long)

pub returns : goal.returns
returns c = c.loop.invariant.1
    ∙ ap (λ n. replicate n (replicate c.args.ksmps (pos 0))) (omega (arith, c.loop-test.false, c.loop.invariant.0))
