use Rattle.std.proofs.Common.{◌≡◌, ◌+◌, ◌*◌, ◌<◌, ℕ, min, subst, arith}
use Rattle.cs_graph.specs.inner.Growing.{AreDrawnTo}
use Rattle.cs_graph.proofs.DrawLemmas.{drawn_clear}
use Rattle.cs_graph.proofs.draw.add_edges.Goals as goal
use Rattle.cs_graph.proofs.draw.add_edges.Goals.{then-not-is_clear+in_ok-add_block, else-not-is_clear}

pub loop-block-preserved : goal.loop-block-preserved
loop-block-preserved c =
    let old = c.args.edges.now.items in
    let near = c.args.near.now in
    let t : ℕ = c.args.note in
    let b : ℕ = c.loop-block.block in
    let low : b * 64 < t = omega (arith, c.loop-block-test.true, c.div_ceil-block-end.ensures) in
    elim c.if-not-is_clear.branch [
      | then-not-is_clear+in_ok-add_block w ↦
          let from : min t (b * 64) ≡ b * 64 = omega (arith, low) in
          let to : w.min.result ≡ min t ((b + 1) * 64) = omega (arith, w.min.ensures) in
          rw w.edges-is (subst (λ n. AreDrawnTo old near t n w.add_block.new.edges.items) to
          (w.in_ok-add_block.ensures old
          (subst (λ n. AreDrawnTo old near t n c.loop-block.edges.items) from c.loop-block.invariant)))
      | else-not-is_clear w ↦
          rw w.edges-is (drawn_clear old near t c.loop-block.edges.items b low
          (c.is_clear.ensures w.if-not-is_clear.false) c.loop-block.invariant)
    ]
