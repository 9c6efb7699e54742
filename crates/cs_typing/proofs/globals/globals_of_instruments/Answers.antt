use Rattle.std.proofs.Common.{◌≡◌, ◌∙◌, ◌+◌, ◌∷◌, arith, drop, map, sym, ap}
use Rattle.std.specs.{List.prefix_len, Prelude.nat_lt}
use Rattle.std.proofs.lemmas.List.{drop_more}
use Rattle.cs_typing.specs.Typing.{given_globals}
use Rattle.cs_typing.specs.inner.Globals.{givers_of, names_in_block, names_in_instruments}
use Rattle.cs_typing.proofs.GlobalsWritten.{given_both}
use Rattle.cs_udo.specs.Library.{definitions_of}
use Rattle.cs_grammar.specs.Tree as tree
use Rattle.cs_typing.proofs.globals.globals_of_instruments.Goals as goal

pub loop-i-preserved : goal.loop-i-preserved
loop-i-preserved c =
    let ds = definitions_of c.args.library.now in
    let x = c.i-item.result in
    let k = c.loop-i.given.names in
    let rest = map tree.instrument (drop (c.loop-i.i-index + 1) c.args.instrs.now) in
    let first = names_in_block (givers_of ds (prefix_len (λ d. nat_lt d.line x.line) ds)) (tree.block x.body.items) in
    let split = drop_more c.args.instrs.now c.loop-i.i-index x (omega arith) in
    let made = c.in_ok-globals_of_block.ensures in
    let names : c.globals_of_block.new.given.names ≡ given_globals k first =
    made.names ∙ λ i. given_globals k
    (names_in_block (givers_of ds (c.before-in-loop-i.ensures.count i)) (tree.block (c.deref.ensures.value i))) in (
      ap (λ t. given_globals t (names_in_instruments ds rest)) names
          ∙ sym (given_both k first (names_in_instruments ds rest))
          ∙ ap (λ y. given_globals k (names_in_instruments ds (tree.instrument y ∷ rest))) c.i-item.is
          ∙ sym (ap (λ xs. given_globals k (names_in_instruments ds (map tree.instrument xs))) split)
          ∙ c.loop-i.invariant.0,
      made.done,
    )
