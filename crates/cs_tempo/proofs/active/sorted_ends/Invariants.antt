use Rattle.std.proofs.Common.{◌≡◌, take}
use Rattle.cs_tempo.specs.inner.Sweep.{ends_of}
use Rattle.cs_tempo.proofs.active.sorted_ends.Given as goal

abbrev pub invariant-loop-event : goal.invariant-loop-event
invariant-loop-event l = l.ends.items ≡ ends_of (take l.event-index l.events)
