use Rattle.std.proofs.Common.{◌+◌, ◌<◌, ◌≤◌, ◌++◌, [], ◌∷◌, drop, false, get_or, length, ap, ◌∙◌, arith, subst}
use Rattle.std.proofs.lemmas.List.{length-append}
use Rattle.cs_rwset.specs.inner.Zoning.{heads}
use Rattle.cs_rwset.proofs.ZoneSteps.{head_passed, head_taken, heads_done, past_either}
use Rattle.cs_rwset.proofs.zones.heads_of.Goals.{then-begins-place+in_ok-push, else-begins-place}
use Rattle.cs_rwset.proofs.zones.heads_of.Goals as goal

pub loop-place-preserved : goal.loop-place-preserved
loop-place-preserved c =
    let marks = c.args.marks.now in
    let begins = c.args.begins.now in
    let p = c.loop-place.place in
    let t = c.loop-place-test.true in
    let e = c.min-place-end.ensures in
    let low : p < length marks = omega (arith, t, e) in
    let here : p < length begins = omega (arith, t, e) in
    elim c.if-begins-place.branch [
      | then-begins-place+in_ok-push w ↦ (
        ap (λ l. l ++ heads (drop (p + 1) marks) (drop (p + 1) begins))
            (ap (λ v. v.items) w.heads-is ∙ w.in_ok-push.ensures.items)
            ∙ head_taken marks begins p c.loop-place.heads.items _ low here w.if-begins-place.true
            c.loop-place.invariant.0,
        (let l = ap length (ap (λ v. v.items) w.heads-is ∙ w.in_ok-push.ensures.items)
            ∙ length-append c.loop-place.heads.items (get_or marks p false ∷ []) in
            let few = c.loop-place.invariant.1 in omega (arith, l, few)),
      )
      | else-begins-place w ↦ (
        ap (λ l. l ++ heads (drop (p + 1) marks) (drop (p + 1) begins)) (ap (λ v. v.items) w.heads-is)
            ∙ head_passed marks begins p c.loop-place.heads.items _ low here w.if-begins-place.false
            c.loop-place.invariant.0,
        (let l = ap length (ap (λ v. v.items) w.heads-is) in
            let few = c.loop-place.invariant.1 in omega (arith, l, few)),
      )
    ]

pub returns-clause-heads : goal.returns-clause-heads
returns-clause-heads c =
    heads_done c.args.marks.now c.args.begins.now c.loop-place.place c.loop-place.heads.items _
    (past_either (length c.args.marks.now) (length c.args.begins.now) c.loop-place.place
    (subst (λ n. n ≤ c.loop-place.place) c.min-place-end.ensures c.loop-place-test.false)) c.loop-place.invariant.0
