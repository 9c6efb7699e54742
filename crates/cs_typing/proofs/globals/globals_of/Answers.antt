use Rattle.std.proofs.Common.{◌∙◌, ap, length, map, sym}
use Rattle.std.proofs.lemmas.List.{length-map}
use Rattle.cs_grammar.specs.Tree as tree
use Rattle.cs_typing.specs.Typing.{given_globals}
use Rattle.cs_typing.specs.inner.Globals.{givers_of, names_in_block, names_in_instruments}
use Rattle.cs_typing.proofs.GlobalsFound.{all_written, none_done}
use Rattle.cs_udo.specs.Library.{definitions_of}
use Rattle.cs_typing.proofs.globals.globals_of.Goals as goal

pub globals_of_block-requires : goal.globals_of_block-requires
globals_of_block-requires c =
    let library = c.args.expansion.now.library in
    let list = library.definitions.now in
    none_done (definitions_of library) (record { names = c.new.result; done = c.in_ok-done.done }) (length list)
    (length-map list tree.definition) (c.in_ok-done.ensures.items_if_clones_equal (λ y h. h))

pub returns : goal.returns
returns c =
    let o = tree.orchestra c.args.expansion.now.orc.now in
    let ds = definitions_of c.args.expansion.now.library in
    let ready = c.requires in
    c.in_ok-globals_of_instruments.ensures
    ∙ ap (λ t. given_globals t (names_in_instruments ds (map tree.instrument c.deref-2.result.now)))
    c.in_ok-globals_of_block.ensures.names ∙ (λ i. given_globals
    (given_globals (c.new.ensures i) (names_in_block (givers_of (ready.definitions i) 0)
    (tree.block (c.deref.ensures.value i))))
    (names_in_instruments (ready.definitions i) (map tree.instrument (c.deref-2.ensures.value i))))
    ∙ sym (all_written o ready.well_formed c.args.expansion.now.fine)
