use Rattle.std.proofs.Common.{◌≡◌, ℕ, ◌+◌, ◌-◌, nat_lt, take, length, arith, ap, sym, ◌∙◌}
use Rattle.std.specs.List.{count_by}
use Rattle.cs_base.specs.Limits.{most_notes}
use Rattle.cs_tempo.specs.{Limits.passes_notes, Limits.at_event, Limits.is_active, inner.Sweep.is_note}
use Rattle.cs_tempo.proofs.Firsts.{first_here, first_on, first_none, count_more}
use Rattle.cs_tempo.proofs.Sweeps.{counted_here, ended_later}
use Rattle.cs_tempo.proofs.active.note_hit.Goals as goal

pub overflow_sub-started : goal.overflow_sub-started
overflow_sub-started c =
    let n = counted_here c.args.events.now c.in_ok-ends.ends.items c.deref.result.now c.loop-event.event-index
    c.ended_by-ended.result c.event-item.result
    c.loop-event.started c.notes_in-started.result c.from.result c.loop-event-test.true c.event-item.is c.requires
    c.in_ok-ends.ensures.ends c.in_ok-ends.ensures.order
    c.loop-event.invariant.started c.notes_in-started.ensures c.deref.ensures.value c.from.ensures
    c.ended_by-ended.ensures in
    omega (arith, n)

pub returns-then-is_too_many : goal.returns-then-is_too_many
returns-then-is_too_many c =
    let k : ℕ = c.loop-event.event-index in
    let n = counted_here c.args.events.now c.in_ok-ends.ends.items c.deref.result.now k c.ended_by-ended.result
    c.event-item.result
    c.loop-event.started c.notes_in-started.result c.from.result c.loop-event-test.true c.event-item.is c.requires
    c.in_ok-ends.ensures.ends c.in_ok-ends.ensures.order
    c.loop-event.invariant.started c.notes_in-started.ensures c.deref.ensures.value c.from.ensures
    c.ended_by-ended.ensures in
    let active : count_by (is_active c.event-item.result.cycle) (take (k + 1) c.args.events.now)
    ≡ c.loop-event.started + c.notes_in-started.result - c.ended_by-ended.result = omega (arith, n) in
    let above = ap (nat_lt most_notes) active ∙ sym c.if-is_too_many.ensures in
    ap at_event (sym (first_here passes_notes c.args.events.now k c.event-item.result c.loop-event-test.true
    c.event-item.is above) ∙ c.loop-event.invariant.first)

pub loop-event-preserved : goal.loop-event-preserved
loop-event-preserved c =
    let k : ℕ = c.loop-event.event-index in
    let n = counted_here c.args.events.now c.in_ok-ends.ends.items c.deref.result.now k c.ended_by-ended.result
    c.event-item.result
    c.loop-event.started c.notes_in-started.result c.from.result c.loop-event-test.true c.event-item.is c.requires
    c.in_ok-ends.ensures.ends c.in_ok-ends.ensures.order
    c.loop-event.invariant.started c.notes_in-started.ensures c.deref.ensures.value c.from.ensures
    c.ended_by-ended.ensures in
    let active : count_by (is_active c.event-item.result.cycle) (take (k + 1) c.args.events.now)
    ≡ c.loop-event.started + c.notes_in-started.result - c.ended_by-ended.result = omega (arith, n) in
    let within = ap (nat_lt most_notes) active ∙ sym c.if-is_too_many.ensures in
    record {
      started = omega (
        arith,
        c.loop-event.invariant.started,
        c.notes_in-started.ensures,
        count_more is_note c.args.events.now k c.event-item.result c.loop-event-test.true c.event-item.is,
      );
      within = omega (arith, c.ended_by-ended.ensures.within, ap length c.deref.ensures.value);
      below = ended_later c.args.events.now c.in_ok-ends.ends.items c.deref.result.now k c.ended_by-ended.result
          c.event-item.result c.from.result
          c.loop-event-test.true c.event-item.is c.requires c.deref.ensures.value c.from.ensures
          c.ended_by-ended.ensures;
      first = sym (first_on passes_notes c.args.events.now k c.event-item.result c.loop-event-test.true c.event-item.is
          within) ∙ c.loop-event.invariant.first;
    }

pub returns : goal.returns
returns c = ap at_event (sym
    (first_none passes_notes c.args.events.now c.loop-event.event-index c.loop-event-test.false)
    ∙ c.loop-event.invariant.first)
