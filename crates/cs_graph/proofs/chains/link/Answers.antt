use Rattle.std.proofs.Common.{subst, sym, ◌∙◌, slice_index_or, slice_set, arith, ◌<◌, length}
use Rattle.std.proofs.lemmas.{Option.slice_get-get_or, List.get_or_default}
use Rattle.cs_graph.specs.inner.Index.{IsChained}
use Rattle.cs_graph.proofs.ChainLemmas.{links}
use Rattle.cs_graph.proofs.chains.link.Goals as goal

pub returns-clause-chained : goal.returns-clause-chained
returns-clause-chained c =
    let ends = slice_index_or c.args.edges.now c.args.edge (0, 0) in
    let at_ = slice_get-get_or c.args.edges.now c.args.edge (0, 0) c.requires.within in
    let way = c.requires.forward c.args.edge ends.0 ends.1 at_ in
    let low : ends.0 < length c.args.first_out.now.items = omega (arith, way.0, way.1) in
    subst (λ x. IsChained c.args.edges.now c.args.edge (slice_set c.args.first_out.now.items ends.0 c.args.edge)
    (slice_set c.args.next_out.now.items c.args.edge x))
    (get_or_default c.args.first_out.now.items ends.0 0 c.index.result.now low ∙ sym c.index.ensures)
    (links c.args.edges.now c.args.edge ends.0 ends.1 at_ c.args.first_out.now.items c.args.next_out.now.items low
    c.requires.chained)
