use Rattle.std.proofs.Common.{◌+◌, sym, subst}
use Rattle.cs_crew_trial.proofs.Ascending.{AscendBelow, passed, pushed}
use Rattle.cs_crew_trial.proofs.marked.foot_of.Goals as goal
use Rattle.cs_crew_trial.proofs.marked.foot_of.Goals.{then-bits-place-eq1+in_ok-push, else-bits-place-eq1}

pub loop-place-preserved : goal.loop-place-preserved
loop-place-preserved c =
    let n = c.loop-place.place in
    let items = c.loop-place.places.items in
    elim c.if-bits-place-eq1.branch [
      | then-bits-place-eq1+in_ok-push w ↦
          rw w.places-is (subst (λ xs. AscendBelow xs (n + 1)) (sym w.in_ok-push.ensures.items)
          (pushed items n c.loop-place.invariant))
      | else-bits-place-eq1 w ↦ rw w.places-is (passed items n c.loop-place.invariant)
    ]
