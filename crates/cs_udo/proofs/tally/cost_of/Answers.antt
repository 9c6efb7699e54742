use Rattle.std.proofs.Common.{◌∙◌, length, map, take, sym, ap}
use Rattle.cs_udo.specs.{Counted.size_of, Counted.counts_in, Expanded.assignments, Names.slots, Library.definitions_of}
use Rattle.cs_udo.specs.{Library.opcodes_of, inner.Tallies.capped, inner.Tallies.after_counts}
use Rattle.cs_udo.proofs.{Priced.none_counted, Priced.cost_is, Weighed.fair_all, Weighed.length_slots}
use Rattle.cs_grammar.specs.Tree as tree
use Rattle.cs_udo.proofs.tally.cost_of.Goals as goal

pub returns : goal.returns
returns c =
    let ds = definitions_of c.args.prices.now.library.now in
    let n = length c.args.prices.now.costs.now in
    let u = c.args.definition.now in
    cost_is (opcodes_of ds n) (fair_all (take n ds)) (tree.definition u) c.after_block-body.result c.assigned.result
    c.plus.result
    (c.after_block-body.ensures
    ∙ ap (λ xs. after_counts none_counted (counts_in (opcodes_of ds n) (tree.block xs))) c.deref.ensures.value)
    (c.assigned.ensures u.line (slots 0 u.outs) (c.len.ensures ∙ sym (length_slots 0 u.outs))
    ∙ ap (λ xs. capped (size_of (assignments u.line (slots 0 u.outs) (map tree.argument xs)))) c.deref-2.ensures.value)
    c.plus.ensures
