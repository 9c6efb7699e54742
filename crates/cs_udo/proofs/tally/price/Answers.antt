use Rattle.std.proofs.Common.{◌∙◌, ◌+◌, length, map, min, take, ap}
use Rattle.cs_udo.specs.{Library.definitions_of, Library.opcodes_of, inner.Tallies.capped}
use Rattle.cs_udo.proofs.{Priced.price_is, Weighed.fair_all}
use Rattle.cs_grammar.specs.Tree as tree
use Rattle.cs_udo.proofs.tally.price.Goals as goal

pub returns-in-Some : goal.returns-in-Some
returns-in-Some c = λ line.
    let ds = definitions_of c.args.prices.now.library.now in
    let n = length c.args.prices.now.costs.now in
    let k = c.in-Some.found.place in
    let u = c.in-Some.found.definition.now in
    let seen = c.in-Some.ensures.defined in
    price_is (opcodes_of ds n) (opcodes_of ds k) (fair_all (take k ds)) (tree.definition u) line c.args.results.now
    c.args.callee.now (map tree.argument c.args.args.now)
    c.assigned-given.result c.capped-taken.result _ c.plus-in-Some-2.result
    seen.2
    (c.assigned-given.ensures line u.names c.len.ensures)
    (c.capped-taken.ensures ∙ ap capped
    (c.min.ensures ∙ ap (λ m. min (length c.args.results.now) m) c.len-in-Some.ensures))
    (c.args.prices.now.priced.each k (tree.definition u) seen.0 seen.1)
    (c.plus-in-Some-2.ensures
    ∙ ap (λ m. capped (m + c.plus-in-Some.result)) c.plus.ensures
    ∙ ap (λ m. capped (capped (c.assigned-given.result + c.capped-taken.result) + m)) c.plus-in-Some.ensures)
