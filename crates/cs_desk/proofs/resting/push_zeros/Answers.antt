use Rattle.std.proofs.Common.{◌≡◌, ◌+◌, ◌++◌, ◌∷◌, [], suc, sym, ap, ◌∙◌, arith}
use Rattle.std.proofs.lemmas.List.{append_assoc}
use Rattle.cs_board.specs.Opening.{each_below}
use Rattle.cs_desk.proofs.resting.push_zeros.Goals as goal

pub loop-preserved : goal.loop-preserved
loop-preserved c =
    let words = c.args.words.now.items in
    let n = c.loop.counter in
    let more : n + 1 ≡ suc n = omega arith in (
      omega (arith, c.loop-test.true),
      c.in_ok-push.ensures.items ∙ ap (λ l. l ++ 0 ∷ []) c.loop.invariant.1
          ∙ append_assoc words (each_below (λ t. 0) n) (0 ∷ []) ∙ ap (λ k. words ++ each_below (λ t. 0) k) (sym more),
    )
