use Rattle.std.proofs.Common.{◌≡◌, ◌∙◌, sym, ap, subst}
use Rattle.cs_typed.specs.Places.{inside}
use Rattle.cs_typing.specs.{inner.Held.known_of, inner.Listed.AreTyped, inner.Listed.routines_of}
use Rattle.cs_typing.specs.{inner.Parts.entered_in, inner.Parts.instrument_in, inner.Walk.GivesInstrument}
use Rattle.cs_typing.specs.inner.Routines.{block_fault_in, known_after_block, known_in, routines_before, typed_block_in}
use Rattle.cs_typing.proofs.{Answers.failed, Answers.same_fault, RoutinePlaces.routines_here}
use Rattle.cs_udo.specs.Library.{definitions_of}
use Rattle.cs_grammar.specs.Tree as tree
use Rattle.cs_typing.proofs.orc.instrument.Goals as goal

pub returns-in_err-body-clause-gives : goal.returns-in_err-body-clause-gives
returns-in_err-body-clause-gives c =
    let ds = definitions_of c.args.library.now in
    let line = c.args.i.now.line in
    let k = known_of c.args.so_far.now.names in
    let here = routines_here line ds c.before-2.result c.before-2.ensures.count in
    let entered : known_of c.exchange.new.self ≡ entered_in k =
    c.exchange.ensures.own ∙ ap (known_in k.shared) c.new-around.ensures in
    let same : block_fault_in (inside c.args.channels) (routines_of ds c.before-2.result) (known_of c.exchange.new.self)
    (tree.block c.deref.result.now) ≡ block_fault_in (inside c.args.channels) (routines_before line ds) (entered_in k)
    (tree.block c.args.i.now.body.items) =
    λ i. block_fault_in (inside c.args.channels) (here i) (entered i) (tree.block (c.deref.ensures.value i)) in
    failed
    (λ r. GivesInstrument c.block.new.so_far.routines r
    (block_fault_in (inside c.args.channels) (routines_before line ds) (entered_in k)
    (tree.block c.args.i.now.body.items)) (instrument_in ds k (tree.instrument c.args.i.now)))
    c.from_residual-in_err-body.result _ c.from_residual-in_err-body.ensures.1
    (same_fault _ _ _ c.in_err-body.ensures.gives same)

pub returns : goal.returns
returns c =
    let ds = definitions_of c.args.library.now in
    let line = c.args.i.now.line in
    let k = known_of c.args.so_far.now.names in
    let here = routines_here line ds c.before-2.result c.before-2.ensures.count in
    let entered : known_of c.exchange.new.self ≡ entered_in k =
    c.exchange.ensures.own ∙ ap (known_in k.shared) c.new-around.ensures in
    let value = c.deref.ensures.value in
    let made = c.in_ok-body.ensures in
    let after : known_of c.block.new.so_far.names
    ≡ known_after_block (routines_before line ds) (entered_in k) (tree.block c.args.i.now.body.items) =
    made.known ∙ λ i. known_after_block (here i) (entered i) (tree.block (value i)) in
    record {
      gives = (
        sym (λ i. block_fault_in (inside c.args.channels) (here i) (entered i) (tree.block (value i))) ∙ made.gives.0,
        λ more.
            let form = made.gives.1 more ∙ λ i. typed_block_in (here i) (entered i) (tree.block (value i)) in
            λ i. record { line = line; numbers = c.in_ok-numbers.ensures i; body = form i },
      );
      behind = record {
        known = c.exchange-2.ensures.own ∙ λ i. known_in (after i).shared (c.exchange.ensures.other i);
        longer = made.ahead.longer;
        sound = subst (λ g. AreTyped c.args.channels ds g c.block.new.so_far.routines)
            (sym (ap (λ n. n.shared) c.exchange-2.ensures.own)) made.ahead.sound;
      };
    }
