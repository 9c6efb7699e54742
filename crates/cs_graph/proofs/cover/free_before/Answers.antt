use Rattle.std.proofs.Common.{ℕ, arith, get_or}
use Rattle.std.proofs.lemmas.Option.{slice_get-get_or}
use Rattle.cs_graph.proofs.CoverLemmas.{taken_more}
use Rattle.cs_graph.proofs.cover.free_before.Goals as goal

pub loop-edge-preserved : goal.loop-edge-preserved
loop-edge-preserved c =
    let within = c.requires.within c.loop-edge.edge c.loop-edge.auto.edge c.loop-edge-test.true in
    taken_more c.args.edges.now c.args.continued.now c.args.range.0 c.loop-edge.edge within
    c.if-not-continued-earlier.false c.loop-edge.invariant

pub returns-then-not-continued-earlier-clause-some : goal.returns-then-not-continued-earlier-clause-some
returns-then-not-continued-earlier-clause-some c =
    let e : ℕ = c.loop-edge.edge in
    let within = c.requires.within e c.loop-edge.auto.edge c.loop-edge-test.true in (
      e,
      (get_or c.args.edges.now e (0, 0)).1,
      c.loop-edge.auto.edge,
      c.loop-edge-test.true,
      slice_get-get_or c.args.edges.now e (0, 0) within,
      c.if-not-continued-earlier.true,
    )

pub returns-clause-none : goal.returns-clause-none
returns-clause-none c e p t low high at_ =
    c.loop-edge.invariant e p t low (omega (arith, high, c.loop-edge-test.false)) at_
