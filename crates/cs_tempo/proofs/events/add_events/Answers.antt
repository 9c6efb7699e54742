use Rattle.std.proofs.Common.{◌≡◌, ℕ, ◌+◌, ◌<◌, ◌≤◌, ◌++◌, List, length, map, take, drop, reverse, arith, ap, sym}
use Rattle.std.proofs.Common.{subst, ◌∙◌}
use Rattle.std.specs.Option.{IfSome}
use Rattle.std.proofs.lemmas.List.{length-map}
use Rattle.cs_score.specs.declared.statement.ScoreStmt.{ScoreStmt}
use Rattle.cs_tempo.specs.{declared.plot.Event.Event, Pairing.stop_of, inner.Events.in_section, inner.Events.HasEnd}
use Rattle.cs_tempo.specs.{inner.Events.IsTurnIn, Plot.SectionSetting, Plot.acts_of, Plot.events_at, Plot.events_along}
use Rattle.cs_tempo.proofs.Walks.{events_step, events_none, stop_within, few_queues, few_before, stop_is, lines_then}
use Rattle.cs_tempo.proofs.{Walks.each_map, Walks.seen_at, Elements.each_drop}
use Rattle.cs_tempo.proofs.events.add_events.Goals as goal

pub take_turn-stop-requires : goal.take_turn-stop-requires
take_turn-stop-requires c = λ n queue e.
    let ss : List ScoreStmt = map (λ s. s.now) c.args.order.now in
    let k : ℕ = c.loop-statement.statement-index in
    let few = few_queues c.loop-statement.queues (reverse (take k ss)) (drop k ss) n queue
    c.loop-statement.invariant.queues e in
    omega (arith, few, few_before ss k)

stop_here : (c : goal.After-take_turn-stop) → c.take_turn-stop.result ≡ stop_of
    (reverse (take c.loop-statement.statement-index (map (λ s. s.now) c.args.order.now)))
    (drop (c.loop-statement.statement-index + 1) (map (λ s. s.now) c.args.order.now)) c.statement-item.result.now
stop_here c =
    let ss : List ScoreStmt = map (λ s. s.now) c.args.order.now in
    let k : ℕ = c.loop-statement.statement-index in
    let some : k < length ss = omega (arith, length-map c.args.order.now (λ s. s.now), c.loop-statement-test.true) in
    let here = seen_at (λ s. s.now) c.args.order.now k c.statement-item.result c.loop-statement-test.true
    c.statement-item.is in
    stop_is ss k c.statement-item.result.now some here c.take_turn-stop.result c.loop-statement.queues
    c.loop-statement.invariant.queues c.take_turn-stop.ensures.stop

pub act_of-requires-clause-stop : goal.act_of-requires-clause-stop
act_of-requires-clause-stop c =
    let ss : List ScoreStmt = map (λ s. s.now) c.args.order.now in
    let k : ℕ = c.loop-statement.statement-index in
    subst (λ o. IfSome o (HasEnd c.args.clock.now c.args.cycles)) (sym (stop_here c))
    (stop_within c.args.clock.now c.args.cycles (reverse (take k ss)) (drop (k + 1) ss) c.statement-item.result.now
    (each_drop (IsTurnIn c.args.clock.now c.args.cycles) ss (k + 1)
    (each_map (IsTurnIn c.args.clock.now c.args.cycles) (λ s. s.now) c.args.order.now c.requires.turns)))

pub loop-statement-preserved : goal.loop-statement-preserved
loop-statement-preserved c =
    let ss : List ScoreStmt = map (λ s. s.now) c.args.order.now in
    let k : ℕ = c.loop-statement.statement-index in
    let some : k < length ss = omega (arith, length-map c.args.order.now (λ s. s.now), c.loop-statement-test.true) in
    let here = seen_at (λ s. s.now) c.args.order.now k c.statement-item.result c.loop-statement-test.true
    c.statement-item.is in
    record {
      queues = lines_then ss k c.statement-item.result.now some here c.loop-statement.queues c.take_turn-stop.new.queues
          c.loop-statement.invariant.queues c.take_turn-stop.ensures.queues;
      events =
          (let set : SectionSetting = in_section c.args.clock.now c.args.offset c.args.cycles in
          let s : ScoreStmt = c.statement-item.result.now in
          let old : List Event = c.loop-statement.events.items in
          let rest : List Event = events_along set (reverse (take (k + 1) ss)) (drop (k + 1) ss) in
          let stop = stop_is ss k s some here c.take_turn-stop.result c.loop-statement.queues
          c.loop-statement.invariant.queues c.take_turn-stop.ensures.stop in
          ap (λ es. es ++ rest) (c.in_ok-push_event.ensures (acts_of set c.take_turn-stop.result s.what)
          (c.in_ok-act.ensures c.args.offset)) ∙ ap (λ o. (old ++ events_at set o s) ++ rest) stop
          ∙ events_step set ss k s old some here ∙ c.loop-statement.invariant.events);
    }

pub returns : goal.returns
returns c =
    let ss : List ScoreStmt = map (λ s. s.now) c.args.order.now in
    let k : ℕ = c.loop-statement.statement-index in
    let all : length ss ≤ k = omega (arith, length-map c.args.order.now (λ s. s.now), c.loop-statement-test.false) in
    sym (events_none (in_section c.args.clock.now c.args.offset c.args.cycles) ss k c.loop-statement.events.items all)
    ∙ c.loop-statement.invariant.events
