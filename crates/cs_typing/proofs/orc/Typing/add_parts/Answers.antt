use Rattle.std.proofs.Common.{◌∙◌, ◌+◌, [], ◌∷◌, arith, drop, map, sym, ap, subst}
use Rattle.std.proofs.lemmas.List.{drop_all}
use Rattle.cs_typing.specs.{Typing.alone, Typing.body, Typing.items, inner.Answers.Judged, inner.Held.known_of}
use Rattle.cs_typing.specs.{inner.Parts.part_fault, inner.Parts.parts_fault, inner.Walk.AddsParts}
use Rattle.cs_typing.proofs.{Answers.failed, Answers.fault_on, Answers.on_ok, Cut.cut, Cut.last}
use Rattle.cs_typing.proofs.PartsAdded.{adds_both, fault_alone, fault_first, fault_next}
use Rattle.cs_udo.specs.Library.{definitions_of}
use Rattle.cs_grammar.specs.Tree as tree
use Rattle.cs_typing.proofs.orc.Typing.add_parts.Goals as goal

pub returns-in_err-add_outside-clause-fault : goal.returns-in_err-add_outside-clause-fault
returns-in_err-add_outside-clause-fault c =
    let ch = c.args.channels in
    let ds = definitions_of c.args.library.now in
    let k = known_of c.loop-i.self.so_far.names in
    let rest = drop (c.loop-i.i-index + 1) c.args.instrs.now in
    let i = c.i-item.result in
    let front = c.split_at.result.0.now in
    let back = c.split_at.result.1.now in
    let parts = cut c.loop-i.rest.now front back c.args.instrs.now c.loop-i.i-index i c.before_line.result (omega arith)
    c.i-item.is c.before_line.ensures.count c.split_at.ensures.front c.split_at.ensures.back in
    let first = alone (tree.block front) in
    failed (λ r. Judged r (parts_fault ch ds (known_of c.args.self.now.so_far.names)
    (items (tree.block c.args.outside.now) (map tree.instrument c.args.instrs.now))))
    c.from_residual.result _ c.from_residual.ensures.1
    (fault_on _ (part_fault ch ds k first) _ c.in_err-add_outside.ensures.0
    (λ f h. sym c.loop-i.invariant.0 ∙ ap (parts_fault ch ds k) parts
    ∙ fault_first ch ds k first (body (tree.instrument i) ∷ items (tree.block back) (map tree.instrument rest)) f h))

pub returns-in_err-add_instrument-clause-fault : goal.returns-in_err-add_instrument-clause-fault
returns-in_err-add_instrument-clause-fault c =
    let ch = c.args.channels in
    let ds = definitions_of c.args.library.now in
    let k = known_of c.loop-i.self.so_far.names in
    let rest = drop (c.loop-i.i-index + 1) c.args.instrs.now in
    let i = c.i-item.result in
    let front = c.split_at.result.0.now in
    let back = c.split_at.result.1.now in
    let parts = cut c.loop-i.rest.now front back c.args.instrs.now c.loop-i.i-index i c.before_line.result (omega arith)
    c.i-item.is c.before_line.ensures.count c.split_at.ensures.front c.split_at.ensures.back in
    let first = alone (tree.block front) in
    let next = body (tree.instrument i) in
    let more = items (tree.block back) (map tree.instrument rest) in
    let mid = known_of c.add_outside.new.self.so_far.names in
    let added = c.in_ok-add_outside.ensures in
    failed (λ r. Judged r (parts_fault ch ds (known_of c.args.self.now.so_far.names)
    (items (tree.block c.args.outside.now) (map tree.instrument c.args.instrs.now))))
    c.from_residual-in_err-add_instrument.result _ c.from_residual-in_err-add_instrument.ensures.1
    (fault_on _ (part_fault ch ds mid next) _ c.in_err-add_instrument.ensures.0
    (λ f h. sym c.loop-i.invariant.0 ∙ ap (parts_fault ch ds k) parts
    ∙ sym (fault_next ch ds k mid first (next ∷ more) added.0 added.1.known) ∙ fault_first ch ds mid next more f h))

pub loop-i-preserved : goal.loop-i-preserved
loop-i-preserved c =
    let ch = c.args.channels in
    let ds = definitions_of c.args.library.now in
    let self = c.loop-i.self in
    let k = known_of self.so_far.names in
    let was = c.loop-i.invariant in
    let rest = drop (c.loop-i.i-index + 1) c.args.instrs.now in
    let i = c.i-item.result in
    let front = c.split_at.result.0.now in
    let back = c.split_at.result.1.now in
    let parts = cut c.loop-i.rest.now front back c.args.instrs.now c.loop-i.i-index i c.before_line.result (omega arith)
    c.i-item.is c.before_line.ensures.count c.split_at.ensures.front c.split_at.ensures.back in
    let first = alone (tree.block front) in
    let next = body (tree.instrument i) in
    let more = items (tree.block back) (map tree.instrument rest) in
    let mid = c.add_outside.new.self in
    let end = c.add_instrument.new.self in
    let one = c.in_ok-add_outside.ensures in
    let two = c.in_ok-add_instrument.ensures in (
      fault_next ch ds (known_of mid.so_far.names) (known_of end.so_far.names) next more two.0 two.1.known
          ∙ fault_next ch ds k (known_of mid.so_far.names) first (next ∷ more) one.0 one.1.known
          ∙ sym (ap (parts_fault ch ds k) parts) ∙ was.0,
      λ t h.
          was.1 t (subst (λ xs. AddsParts ch ds self t xs) (sym parts)
          (adds_both ch ds self mid t (first ∷ []) (next ∷ more) one.1
          (adds_both ch ds mid end t (next ∷ []) more two.1 h))),
      two.1.sound,
    )

pub returns : goal.returns
returns c =
    let ch = c.args.channels in
    let ds = definitions_of c.args.library.now in
    let k = known_of c.loop-i.self.so_far.names in
    let parts = last c.loop-i.rest.now (drop c.loop-i.i-index c.args.instrs.now)
    (drop_all c.loop-i.i-index c.args.instrs.now (omega arith)) in
    record {
      fault = subst (λ f. Judged c.add_outside-2.result f)
          (sym (fault_alone ch ds k (alone (tree.block c.loop-i.rest.now))) ∙ sym (ap (parts_fault ch ds k) parts)
          ∙ c.loop-i.invariant.0) c.add_outside-2.ensures.0;
      adds = on_ok c.add_outside-2.result c.add_outside-2.ensures.1
          (λ h. c.loop-i.invariant.1 c.add_outside-2.new.self
          (subst (λ xs. AddsParts ch ds c.loop-i.self c.add_outside-2.new.self xs) (sym parts) h));
    }
