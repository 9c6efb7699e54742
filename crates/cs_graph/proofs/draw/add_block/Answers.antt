use Rattle.std.proofs.Common.{◌≡◌, true, false, sym, ◌∙◌, ℕ, subst, arith}
use Rattle.cs_graph.proofs.DrawLemmas.{drawn_skip, drawn_push}
use Rattle.cs_graph.specs.{inner.Growing.AreDrawnTo, inner.Sets.has}
use Rattle.cs_graph.proofs.draw.add_block.Goals.{then-contains+in_ok-push, else-contains}
use Rattle.cs_graph.proofs.draw.add_block.Goals as goal

pub loop-earlier-preserved : goal.loop-earlier-preserved
loop-earlier-preserved c =
    let near = c.args.near.now in
    let p : ℕ = c.loop-earlier.earlier in
    let t : ℕ = c.args.note in
    elim c.if-contains.branch [
      | then-contains+in_ok-push w ↦
          let tested : has near p ≡ true = sym c.contains.ensures ∙ w.if-contains.true in
          rw (w.edges-is, w.in_ok-push.ensures.items)
          (λ old d. drawn_push old near t c.loop-earlier.edges.items p tested (c.loop-earlier.invariant old d))
      | else-contains w ↦
          let tested : has near p ≡ false = sym c.contains.ensures ∙ w.if-contains.false in
          rw w.edges-is (λ old d. drawn_skip old near t c.loop-earlier.edges.items p tested
          (c.loop-earlier.invariant old d))
    ]

pub returns : goal.returns
returns c = λ old d.
    let e : c.loop-earlier.earlier ≡ c.args.to =
    omega (arith, c.loop-earlier-test.false, c.loop-earlier.auto.earlier, c.requires.small.0) in
    subst (λ n. AreDrawnTo old c.args.near.now c.args.note n c.loop-earlier.edges.items) e
    (c.loop-earlier.invariant old d)
