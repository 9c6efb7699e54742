use Rattle.std.proofs.Common.{◌≡◌, ◌∙◌, ◌+◌, ◌<◌, ◌≤◌, ◌^◌, ◌++◌, [], length, take, map, sum, arith, ap, sym, subst}
use Rattle.std.specs.List.{All}
use Rattle.std.proofs.lemmas.{List.take_all, List.Elements.All-drop, List.Elements.All-take}
use Rattle.cs_score.specs.Ranges.{IsInRange}
use Rattle.cs_tempo.specs.{Order.in_order, Sections.length_of, Sections.sections_of}
use Rattle.cs_tempo.specs.Plot.{setting_of, events_along, events_from}
use Rattle.cs_tempo.proofs.Plots.{events_first, events_last, first_short, length_first}
use Rattle.cs_tempo.proofs.scheduling.events_of.Goals as goal

pub returns-then-end-left : goal.returns-then-end-left
returns-then-end-left c =
    let head = c.args.head.now in
    let left = c.loop-events.left.now in
    let done = c.loop-events.events.items in
    let all : c.section_end-end.result ≡ length left = omega (arith, c.if-end-left.true) in
    c.in_ok-offset.ensures.events
    ∙ ap (λ s. done ++ events_along (setting_of head c.loop-events.offset s) [] (in_order s))
    (take_all c.section_end-end.result left (omega (arith, all)))
    ∙ events_last head c.loop-events.offset left done (c.section_end-end.ensures.last all)
    ∙ c.loop-events.invariant.events

pub loop-events-preserved : goal.loop-events-preserved
loop-events-preserved c =
    let head = c.args.head.now in
    let left = c.loop-events.left.now in
    let done = c.loop-events.events.items in
    let offset = c.loop-events.offset in
    let end = c.section_end-end.result in
    let some : end < length left = omega (arith, c.section_end-end.ensures.within, c.if-end-left.false) in
    let split = c.section_end-end.ensures.ended some in
    let first = events_along (setting_of head offset (take end left)) [] (in_order (take end left)) in
    let n = c.in_ok-offset.ensures.length in
    let there = c.behind-left.ensures in
    record {
      events =
          ap (λ es. es ++ events_from head (offset + c.in_ok-offset.field-0) (sections_of c.behind-left.result.now))
          c.in_ok-offset.ensures.events
          ∙ ap (λ m. (done ++ first) ++ events_from head (offset + m) (sections_of c.behind-left.result.now)) n
          ∙ ap (λ b. (done ++ first) ++ events_from head (offset + length_of head (take end left)) (sections_of b))
          there ∙ events_first head offset left end done split ∙ c.loop-events.invariant.events;
      short = subst (λ b. offset + c.in_ok-offset.field-0 + sum (map (length_of head) (sections_of b)) ≤ 2 ^ 30)
          (sym there) (omega (arith, n, length_first head left end offset split, c.loop-events.invariant.short));
      range = subst (All IsInRange) (sym there) (All-drop IsInRange (end + 1) left c.loop-events.invariant.range);
    }

pub section_events-requires-clause-range : goal.section_events-requires-clause-range
section_events-requires-clause-range c =
    All-take IsInRange c.section_end-end.result c.loop-events.left.now c.loop-events.invariant.range

pub section_events-requires-clause-short : goal.section_events-requires-clause-short
section_events-requires-clause-short c =
    first_short c.args.head.now c.loop-events.offset c.loop-events.left.now c.section_end-end.result
    c.section_end-end.ensures.within c.section_end-end.ensures.ended c.section_end-end.ensures.last
    c.loop-events.invariant.short
