use Rattle.std.proofs.Common.{◌≡◌, ◌++◌, [], map, take, drop, reverse}
use Rattle.cs_tempo.specs.{inner.Stops.AreQueues, inner.Events.in_section, Plot.events_along}
use Rattle.cs_tempo.proofs.events.add_events.Given as goal

abbrev pub invariant-loop-statement : goal.invariant-loop-statement
invariant-loop-statement l = record {
  queues : AreQueues l.queues (reverse (take l.statement-index (map (λ s. s.now) l.order)))
      (drop l.statement-index (map (λ s. s.now) l.order));
  events : l.events.items ++ events_along (in_section l.clock l.offset l.cycles)
      (reverse (take l.statement-index (map (λ s. s.now) l.order))) (drop l.statement-index (map (λ s. s.now) l.order))
      ≡ l.initial.events.items ++ events_along (in_section l.clock l.offset l.cycles) [] (map (λ s. s.now) l.order);
}
