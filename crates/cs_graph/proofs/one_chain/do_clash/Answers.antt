use Rattle.cs_graph.proofs.CommonLemmas.{clashes_by}
use Rattle.cs_graph.proofs.one_chain.do_clash.Goals as goal

pub returns-else-have_common : goal.returns-else-have_common
returns-else-have_common c =
    clashes_by c.requires.0 c.args.one.now c.args.other.now c.have_common.result c.have_common-else-have_common.result
    _ _ _ _ c.as_slice.ensures c.as_slice-2.ensures c.as_slice-else-have_common.ensures
    c.as_slice-else-have_common-2.ensures c.if-have_common.false c.requires.1 c.requires.2 c.have_common.ensures
    c.have_common-else-have_common.ensures
