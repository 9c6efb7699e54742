use Rattle.std.proofs.Common.{◌≡◌, ℕ, ◌∷◌, [], ◌++◌, ℤ, length, map, take, refl, ap, sym, ◌∙◌, arith}
use Rattle.std.proofs.lemmas.List.{length-set, map-append, take_all, take_more, take_more_set}
use Rattle.cs_signal.specs.{Operands.operand_at, declared.operand.Operand.Operand}
use Rattle.cs_signal.proofs.stepwise.gathered.Goals as goal

pub loop-k-init : goal.loop-k-init
loop-k-init c = (refl, refl)

pub loop-k-preserved : goal.loop-k-preserved
loop-k-preserved c =
    let long = c.loop-k.invariant.0 in
    let k : ℕ = c.loop-k.k in
    let inside = c.loop-k-test.true in
    let few = c.requires in
    let xs = c.args.inputs.now in
    let x = c.index-inputs-k.result in
    let at : Operand → ℤ = λ x. operand_at x c.args.frame in (
      length-set c.loop-k.here k c.at.result ∙ long,
      take_more_set c.loop-k.here k c.at.result (omega arith) ∙ ap (λ l. l ++ c.at.result ∷ []) c.loop-k.invariant.1
          ∙ ap (λ z. map at (take k xs) ++ z ∷ []) (c.at.ensures ∙ ap at c.index-inputs-k.is)
          ∙ sym (ap (map at) (take_more xs k x inside) ∙ map-append at (take k xs) (_ ∷ [])),
    )

pub returns-clause-first : goal.returns-clause-first
returns-clause-first c =
    let xs = c.args.inputs.now in
    let over = c.loop-k-test.false in
    let end = c.loop-k.auto.k-end in
    let k : ℕ = c.loop-k.k in
    let whole : k ≡ length xs = omega arith in
    ap (λ n. take n c.loop-k.here) (sym whole) ∙ c.loop-k.invariant.1
    ∙ ap (λ l. map (λ x. operand_at x c.args.frame) l) (take_all k xs (omega arith))
