use Rattle.std.proofs.Common.{◌≡◌, ◌∙◌, ◌+◌, arith, length, slice_get, Some, ap}
use Rattle.std.proofs.lemmas.List.{length_push}
use Rattle.cs_udo.specs.{Expanded.template, Library.definitions_of, Library.opcodes_of, inner.Tallies.capped}
use Rattle.cs_udo.specs.inner.Tallies.{weight}
use Rattle.cs_udo.proofs.{Places.read_one, Priced.one_more_price}
use Rattle.cs_grammar.specs.Tree as tree
use Rattle.cs_udo.proofs.tally.costs_of.Goals as goal

pub loop-definition-preserved : goal.loop-definition-preserved
loop-definition-preserved c =
    let us = c.args.library.now.definitions.now in
    let ds = definitions_of c.args.library.now in
    let costs = c.loop-definition.costs.items in
    let u = c.definition-item.result in
    let d = tree.definition u in
    let count = c.loop-definition.invariant.1 in
    let pushed = c.in_ok-push.ensures.items in
    let here : slice_get ds (length costs) ≡ Some d =
    ap (slice_get ds) count ∙ read_one us c.loop-definition.definition-index u (omega arith) c.definition-item.is in (
      one_more_price ds costs c.push.new.self.items c.cost_of-cost.result d c.loop-definition.invariant.0 here
          (c.cost_of-cost.ensures
          ∙ ap (λ xs. capped (weight (template (opcodes_of ds (length xs)) d))) c.deref.ensures.value)
          pushed,
      ap length pushed ∙ length_push costs c.cost_of-cost.result ∙ ap (λ n. n + 1) count,
    )
