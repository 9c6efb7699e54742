use Rattle.std.proofs.Common.{◌∙◌, map, ap, sym, subst}
use Rattle.cs_tempo.specs.inner.Events.{IsTurnIn}
use Rattle.std.specs.List.{AllByRecursion as Each}
use Rattle.cs_tempo.proofs.Walks.{order_each, all_map}
use Rattle.cs_tempo.proofs.events.add_section.Goals as goal

pub add_events-requires-clause-turns : goal.add_events-requires-clause-turns
add_events-requires-clause-turns c =
    all_map (IsTurnIn c.args.clock.now c.args.cycles) (λ s. s.now) c.deref.result.now
    (subst (Each (IsTurnIn c.args.clock.now c.args.cycles))
    (sym (ap (map (λ s. s.now)) c.deref.ensures.value ∙ c.in_ok-order.ensures))
    (order_each c.args.clock.now c.args.cycles c.args.section.now c.requires.range c.requires.reach))
