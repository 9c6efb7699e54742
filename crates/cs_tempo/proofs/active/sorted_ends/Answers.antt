use Rattle.std.proofs.Common.{◌++◌, ◌∙◌, refl, ap, subst, ℕ}
use Rattle.std.specs.List.Sorted.{IsPermutation}
use Rattle.std.proofs.lemmas.List.{Sorted.IsNonDecreasingBy-from_sort, take_all}
use Rattle.cs_tempo.specs.inner.Sweep.{ends_of, own_end}
use Rattle.cs_tempo.proofs.Sweeps.{ends_more}
use Rattle.cs_tempo.proofs.active.sorted_ends.Goals as goal

pub loop-event-init : goal.loop-event-init
unfolding ends_of
loop-event-init c = rw c.new-ends.ensures.items refl

pub loop-event-preserved : goal.loop-event-preserved
loop-event-preserved c =
    c.in_ok-push_end.ensures ∙ ap (λ r. r ++ own_end c.event-item.result) c.loop-event.invariant
    ∙ ends_more c.args.events.now c.loop-event.event-index c.event-item.result c.loop-event-test.true c.event-item.is

pub returns-clause-order : goal.returns-clause-order
returns-clause-order c = IsNonDecreasingBy-from_sort (λ (n : ℕ). n) _ c.in_ok-sort.ensures.sorted

pub returns-clause-ends : goal.returns-clause-ends
returns-clause-ends c =
    let all = take_all c.loop-event.event-index c.args.events.now c.loop-event-test.false in
    subst (λ ends. IsPermutation ends c.sort.new.self.items) (c.loop-event.invariant ∙ ap ends_of all)
    c.in_ok-sort.ensures.permutation
