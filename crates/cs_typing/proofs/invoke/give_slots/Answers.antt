use Rattle.std.proofs.Common.{arith, drop, map}
use Rattle.cs_base.specs.declared.resource.Rate.{Rate}
use Rattle.cs_grammar.specs.Tree.{argument}
use Rattle.cs_typing.specs.{inner.Held.known_of, inner.Routines.known_in}
use Rattle.cs_typing.specs.inner.Slots.{slot_numbers, slots_fault, slots_past, slots_set}
use Rattle.cs_typing.specs.inner.Answers.{Judged}
use Rattle.cs_typing.proofs.Answers.{failed}
use Rattle.cs_typing.proofs.Beside.{SlotsMade, at_end, at_word, in_both, no_slots, past_both, slot_fault, slots_done}
use Rattle.cs_typing.proofs.Beside.{slots_end, slots_made, slots_next}
use Rattle.cs_typed.specs.TypedTree as typed
use Rattle.cs_typing.proofs.invoke.give_slots.Goals as goal

pub index-requires : goal.index-requires
index-requires c =
    omega (arith, c.min-i-end.ensures, c.len.ensures, c.args.definition.now.result.ok, c.loop-i-test.true)

pub bounds-rates-i : goal.bounds-rates-i
bounds-rates-i c = omega (arith, c.min-i-end.ensures, c.loop-i-test.true)

pub returns-in-Text : goal.returns-in-Text
returns-in-Text c =
    let d = c.args.definition.now in
    let s = c.args.setting in
    let k = known_of c.loop-i.names in
    let low = in_both d.outs d.result.items c.loop-i.i c.min-i-end.ensures c.as_slice-rates.ensures
    (omega (arith, c.len.ensures, d.result.ok)) (omega (arith, c.loop-i-test.true)) in
    let none = at_word Rate SlotsMade (slots_made s k d.line) (no_slots k) (slots_end s k d.line) d.outs d.result.items
    c.loop-i.i c.index.result.now _ (omega (arith, low)) c.index.ensures c.in-Text.is in
    let done = slots_done s d.line k c.loop-i.done.items c.loop-i.slots.items (drop c.loop-i.i d.outs)
    (map argument (drop c.loop-i.i d.result.items)) none _ _ _ _ c.loop-i.invariant in
    record { fault = done.0; made = done.1; known = done.2; numbers = done.3 }

pub loop-i-preserved : goal.loop-i-preserved
loop-i-preserved c =
    let d = c.args.definition.now in
    let low = in_both d.outs d.result.items c.loop-i.i c.min-i-end.ensures c.as_slice-rates.ensures
    (omega (arith, c.len.ensures, d.result.ok)) (omega (arith, c.loop-i-test.true)) in
    let made = c.in_ok-number-in-Value.ensures in
    let start = known_of c.args.names.now in
    let all = map argument d.result.items in
    slots_next c.args.setting (known_of c.loop-i.names) (known_of c.give_slot.new.names) d.line d.outs
    c.as_slice-rates.result.now d.result.items c.loop-i.i _ c.index.result.now c.in-Value.e c.loop-i.done.items
    c.give_slot.new.done.items c.loop-i.slots.items c.push.new.self.items c.in_ok-number-in-Value.number
    (omega (arith, low)) (omega (arith, low)) c.as_slice-rates.ensures c.index.ensures c.in-Value.is made.fault
    made.made made.known made.number c.in_ok-push-in-Value.ensures.items
    (slots_fault c.args.setting start d.line d.outs all)
    (λ rs. typed.then_block (typed.block rs c.args.done.now.items) (slots_set start d.line d.outs all))
    (known_in start.shared (slots_past start.locals d.outs all)) (slot_numbers start.locals.counts d.outs all)
    c.loop-i.invariant

pub returns-in_err-number-in-Value-clause-fault : goal.returns-in_err-number-in-Value-clause-fault
returns-in_err-number-in-Value-clause-fault c =
    let d = c.args.definition.now in
    let s = c.args.setting in
    let low = in_both d.outs d.result.items c.loop-i.i c.min-i-end.ensures c.as_slice-rates.ensures
    (omega (arith, c.len.ensures, d.result.ok)) (omega (arith, c.loop-i-test.true)) in
    let whole = slots_fault s (known_of c.args.names.now) d.line d.outs (map argument d.result.items) in
    failed (λ r. Judged r whole) c.from_residual.result _ c.from_residual.ensures.1
    (slot_fault s (known_of c.loop-i.names) d.line d.outs c.as_slice-rates.result.now d.result.items c.loop-i.i _
    c.index.result.now c.in-Value.e _ whole (omega (arith, low)) (omega (arith, low)) c.as_slice-rates.ensures
    c.index.ensures c.in-Value.is c.in_err-number-in-Value.ensures.fault c.loop-i.invariant.0)

pub returns : goal.returns
returns c =
    let d = c.args.definition.now in
    let s = c.args.setting in
    let k = known_of c.loop-i.names in
    let past = past_both d.outs d.result.items c.loop-i.i c.min-i-end.ensures c.as_slice-rates.ensures
    (omega (arith, c.len.ensures, d.result.ok)) (omega (arith, c.loop-i-test.false)) in
    let none = at_end Rate SlotsMade (slots_made s k d.line) (no_slots k) (slots_end s k d.line) d.outs d.result.items
    c.loop-i.i past in
    let done = slots_done s d.line k c.loop-i.done.items c.loop-i.slots.items (drop c.loop-i.i d.outs)
    (map argument (drop c.loop-i.i d.result.items)) none _ _ _ _ c.loop-i.invariant in
    record { fault = done.0; made = done.1; known = done.2; numbers = done.3 }
