use Rattle.std.proofs.Common.{ℕ, nat_eq, take, map}
use Rattle.std.specs.HashMap.{get}
use Rattle.cs_tempo.specs.{inner.Counted.stops_of, inner.Stops.Shows}
use Rattle.cs_tempo.proofs.pairing.stops_by_instrument.Given as goal

abbrev pub invariant-loop-statement : goal.invariant-loop-statement
invariant-loop-statement l =
    (n : ℕ) → Shows (get nat_eq l.queues n) (stops_of n (map (λ s. s.now) (take l.statement-index l.order))) 0
