use Rattle.std.proofs.Common.{◌∙◌, ◌+◌, arith, drop, map, true, sym, ap}
use Rattle.cs_udo.specs.{Expanded.opcodes_before, Library.definitions_of, Library.opcodes_of, inner.Walks.after_faults}
use Rattle.cs_udo.specs.Refused.{faults_in, faults_of_instruments}
use Rattle.cs_udo.proofs.{Faulted.after_both, Places.dropped, Places.opcodes_here}
use Rattle.cs_grammar.specs.Tree as tree
use Rattle.cs_udo.proofs.refuse.after_instruments.Goals as goal

pub loop-i-preserved : goal.loop-i-preserved
loop-i-preserved c =
    let ds = definitions_of c.args.library.now in
    let x = c.i-item.result in
    let rest = drop (c.loop-i.i-index + 1) c.args.instrs.now in
    let split = dropped c.args.instrs.now c.loop-i.i-index x (omega arith) c.i-item.is in
    let here = opcodes_here x.line ds c.before.before-in-loop-i.result c.before.before-in-loop-i.ensures.count in
    ap (λ s. after_faults s (faults_of_instruments ds (map tree.instrument rest)))
    (c.after_block-known.ensures
    ∙ ap (λ xs. after_faults c.loop-i.known
    (faults_in (opcodes_of ds c.before.before-in-loop-i.result) true (tree.block xs))) c.deref.ensures.value
    ∙ ap (λ env. after_faults c.loop-i.known (faults_in env true (tree.block x.body.items))) here)
    ∙ sym (after_both c.loop-i.known (faults_in (opcodes_before x.line ds) true (tree.block x.body.items))
    (faults_of_instruments ds (map tree.instrument rest)))
    ∙ sym (ap (λ xs. after_faults c.loop-i.known (faults_of_instruments ds (map tree.instrument xs))) split)
    ∙ c.loop-i.invariant
