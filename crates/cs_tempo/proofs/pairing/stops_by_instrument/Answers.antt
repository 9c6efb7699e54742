use Rattle.std.proofs.Common.{ℕ, nat_eq, map, refl, subst, List}
use Rattle.std.specs.HashMap.{get}
use Rattle.std.proofs.lemmas.List.{take_all}
use Rattle.cs_tempo.specs.{inner.Counted.stops_of, inner.Counted.sounding, inner.Stops.Shows}
use Rattle.cs_tempo.proofs.Pairs.{stops_step}
use Rattle.cs_tempo.proofs.pairing.stops_by_instrument.Goals as goal

pub loop-statement-init : goal.loop-statement-init
unfolding stops_of
loop-statement-init c = λ n. rw c.new-queues.ensures.empty refl

pub loop-statement-preserved : goal.loop-statement-preserved
loop-statement-preserved c = λ n.
    subst (λ (ss : List ℕ). Shows (get nat_eq c.add_own_stop.new.queues n) ss 0)
    (stops_step (λ s. s.now) n c.args.order.now c.loop-statement.statement-index c.statement-item.result
    c.loop-statement-test.true c.statement-item.is) (c.in_ok-add_own_stop.ensures n _ (c.loop-statement.invariant n))

pub returns : goal.returns
unfolding sounding
returns c = λ n.
    subst (λ ss. Shows (get nat_eq c.loop-statement.queues n) (stops_of n (map (λ s. s.now) ss)) 0)
    (take_all c.loop-statement.statement-index c.args.order.now c.loop-statement-test.false)
    (c.loop-statement.invariant n)
