use Rattle.std.proofs.Common.{◌+◌, ◌-◌, ◌≡◌, ◌∙◌, arith, subst, sym}
use Rattle.cs_graph.specs.{Graph.LeadsForward, inner.Index.IsChained}
use Rattle.cs_graph.proofs.ChainLemmas.{chained_none}
use Rattle.cs_graph.proofs.chains.chained.Goals as goal

pub loop-edge-init : goal.loop-edge-init
loop-edge-init c =
    let w = chained_none c.args.edges.now c.args.notes _ _
    (c.in_ok-first_out.ensures.items_if_clones_equal (λ y e. e))
    (c.in_ok-next_out.ensures.items_if_clones_equal (λ y e. e)) in
    (omega arith, w.0, w.1)

pub link-requires-clause-forward : goal.link-requires-clause-forward
link-requires-clause-forward c =
    subst (LeadsForward c.args.edges.now) (sym c.loop-edge.invariant.1) c.requires.forward

pub link-requires-clause-chained : goal.link-requires-clause-chained
link-requires-clause-chained c =
    let up : c.loop-edge.edge ≡ c.loop-edge.edge - 1 + 1 = omega (arith, c.loop-edge-test.true) in
    subst (λ e. IsChained c.args.edges.now e c.loop-edge.first_out.items c.loop-edge.next_out.items) up
    c.loop-edge.invariant.2

pub loop-edge-preserved : goal.loop-edge-preserved
loop-edge-preserved c =
    let i = c.loop-edge.invariant in
    (omega (arith, i.0), c.link.ensures.notes ∙ i.1, c.link.ensures.chained)

pub returns-clause-chained : goal.returns-clause-chained
returns-clause-chained c =
    let done : c.loop-edge.edge ≡ 0 = omega (arith, c.loop-edge-test.false) in
    subst (λ e. IsChained c.args.edges.now e c.loop-edge.first_out.items c.loop-edge.next_out.items) done
    c.loop-edge.invariant.2
