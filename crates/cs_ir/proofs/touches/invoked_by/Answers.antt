use Rattle.std.proofs.Common.{◌∙◌, ◌++◌, ◌∷◌, [], ◌↔◌, ap, append-nil, nat_eq, subst, sym, take}
use Rattle.std.specs.List.{Contains}
use Rattle.std.proofs.lemmas.{List.Filters.dedup_is, List.take_all}
use Rattle.cs_ir.specs.inner.Naming.{invoked, step_invokes}
use Rattle.cs_ir.proofs.Naming.{each_number_once, flat_next}
use Rattle.cs_ir.proofs.touches.invoked_by.Goals.{in-Do, in-Invoke+in_ok-push-in-Invoke}
use Rattle.cs_ir.proofs.touches.invoked_by.Goals as goal

pub loop-step-preserved : goal.loop-step-preserved
loop-step-preserved c =
    let ss = c.args.steps.now in
    let i = c.loop-step.step-index in
    let old = invoked (take i ss) in
    let next = flat_next step_invokes ss i c.step-item.result c.loop-step-test.true c.step-item.is in
    elim c.match-step.branch [
      | in-Do w ↦ ap (λ v. v.items) w.numbers-is ∙ c.loop-step.invariant ∙ sym (append-nil old)
          ∙ ap (λ s. old ++ step_invokes s) (sym w.in-Do.is) ∙ next
      | in-Invoke+in_ok-push-in-Invoke w ↦ ap (λ v. v.items) w.numbers-is ∙ w.in_ok-push-in-Invoke.ensures.items
          ∙ ap (λ l. l ++ w.in-Invoke.call.routine ∷ []) c.loop-step.invariant
          ∙ ap (λ s. old ++ step_invokes s) (sym w.in-Invoke.is) ∙ next
    ]

pub returns : goal.returns
returns c n =
    subst (λ l. Contains c.dedup.new.self.items n ↔ Contains l n) (c.loop-step.invariant
    ∙ ap invoked (take_all c.loop-step.step-index c.args.steps.now c.loop-step-test.false))
    (each_number_once c.loop-step.numbers.items c.sort_unstable.new.self.items c.dedup.new.self.items n
    c.sort_unstable.ensures.permutation
    (dedup_is nat_eq c.sort_unstable.new.self.items c.dedup.new.self.items c.dedup.ensures.filtered))
