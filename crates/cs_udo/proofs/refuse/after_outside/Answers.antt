use Rattle.std.proofs.Common.{◌∙◌, ◌+◌, arith, drop, false, sym, ap}
use Rattle.cs_grammar.specs.WellFormed.{line_of}
use Rattle.cs_udo.specs.{Expanded.opcodes_before, Library.definitions_of, inner.Walks.after_faults}
use Rattle.cs_udo.specs.Refused.{faults, faults_outside}
use Rattle.cs_udo.proofs.{Faulted.after_both, Places.dropped, Places.opcodes_here, Places.line_is}
use Rattle.cs_grammar.specs.Tree as tree
use Rattle.cs_udo.proofs.refuse.after_outside.Goals as goal

pub loop-s-preserved : goal.loop-s-preserved
loop-s-preserved c =
    let ds = definitions_of c.args.library.now in
    let x = c.s-item.result in
    let rest = drop (c.loop-s.s-index + 1) c.args.outside.now in
    let split = dropped c.args.outside.now c.loop-s.s-index x (omega arith) c.s-item.is in
    let here = opcodes_here x.line ds c.before.before-in-loop-s.result c.before.before-in-loop-s.ensures.count
    ∙ sym (ap (λ n. opcodes_before n ds) (line_is x.line x.what)) in
    ap (λ s. after_faults s (faults_outside ds (tree.block rest)))
    (c.after_stmt-known.ensures ∙ ap (λ env. after_faults c.loop-s.known (faults env false (tree.statement x))) here)
    ∙ sym (after_both c.loop-s.known (faults (opcodes_before (line_of (tree.statement x)) ds) false (tree.statement x))
    (faults_outside ds (tree.block rest)))
    ∙ sym (ap (λ xs. after_faults c.loop-s.known (faults_outside ds (tree.block xs))) split)
    ∙ c.loop-s.invariant
