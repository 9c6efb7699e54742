use Rattle.std.proofs.Common.{◌-◌, ltb, leb, length, take, drop, length-drop, arith, rules, ◌≤◌}
use Rattle.std.proofs.lemmas.{List.take_all, List.Sorted.IsPartitionedBy-leb, List.Sorted.IsPartitionedBy-ltb}
use Rattle.std.proofs.lemmas.List.Sorted.{IsNonDecreasingBy-drop, IsNonDecreasingBy-take, IsPartitionPoint-from_clause}
use Rattle.cs_tempo.specs.declared.plot.Event.{Event}
use Rattle.cs_life.proofs.Going.{events_between}
use Rattle.cs_life.proofs.begin.events_of.Goals as goal

pub returns : goal.returns
returns c =
    let first = c.partition_point-first.result in
    let rest = take (length c.args.events.now - first) (drop first c.args.events.now) in
    let ordered = IsNonDecreasingBy-take (λ (e : Event). e.cycle) (length c.args.events.now - first)
    (drop first c.args.events.now)
    (IsNonDecreasingBy-drop (λ (e : Event). e.cycle) first c.args.events.now c.requires) in
    let enough : length (drop first c.args.events.now) ≤ length c.args.events.now - first =
    omega (arith, length-drop first c.args.events.now) in
    events_between c.args.events.now rest c.args.cycle first c.partition_point-count.result
    c.partition_point-first.ensures.bound
    (take_all (length c.args.events.now - first) (drop first c.args.events.now) enough)
    c.partition_point-count.ensures.bound
    (IsPartitionPoint-from_clause (λ (e : Event). ltb e.cycle c.args.cycle) c.args.events.now first
    c.partition_point-first.ensures.partitioned
    (IsPartitionedBy-ltb (λ (e : Event). e.cycle) c.args.events.now c.args.cycle c.requires) (λ a r q k. search rules))
    (IsPartitionPoint-from_clause (λ (e : Event). leb e.cycle c.args.cycle) rest c.partition_point-count.result
    c.partition_point-count.ensures.partitioned
    (IsPartitionedBy-leb (λ (e : Event). e.cycle) rest c.args.cycle ordered) (λ a r q k. search rules))
