use Rattle.std.proofs.Common.{◌≡◌, ◌∙◌, ap, arith, length, map, subst, sym, true, List}
use Rattle.cs_ir.proofs.Drafting.{aim_within, aimed_so, steps_stay}
use Rattle.cs_ir.specs.Drafts.{Aimed, Draft}
use Rattle.cs_ir.specs.{Flat.are_within, Routines.steps_of, declared.step.Step.Step, inner.Steps.aim_step}
use Rattle.cs_ir.proofs.draft.CodeDraft.aim.Goals as goal

pub invariant_of-self : goal.invariant_of-self
invariant_of-self c =
    let items : List Step = c.self.inside.steps.items in
    let mark = c.mark.inside.step in
    let end = c.len-end.result in (
      c.self.invariant.0,
      subst (λ (l : List Step). are_within (length l) l ≡ true) (sym c.aim_step.ensures)
          (subst (λ n. are_within n (aim_step mark end items) ≡ true) (sym (steps_stay items mark end))
          (aim_within (length items) items mark end c.self.invariant.1 (omega (arith, c.len-end.ensures)))),
    )

pub returns : goal.returns
returns c place h =
    let old : Draft = c.args.self.now in
    let long : c.len-end.result ≡ length c.self.inside.steps.items = omega (arith, c.len-end.ensures) in
    let aimed : c.aim_step.new.steps.items ≡ aim_step c.args.mark (length old.steps) old.steps =
    c.aim_step.ensures ∙ ap (λ n. aim_step n c.len-end.result c.self.inside.steps.items) c.mark.view_is
    ∙ ap (λ n. aim_step c.args.mark n c.self.inside.steps.items) long
    ∙ ap (λ (d : Draft). aim_step c.args.mark (length d.steps) d.steps) c.self.view_is in
    subst (λ (l : List Step).
    Aimed old (record { routines = map steps_of c.self.inside.routines.now; steps = l }) place) (sym aimed)
    (subst (λ (d : Draft). Aimed old (record d { steps = aim_step c.args.mark (length old.steps) old.steps }) place)
    (sym c.self.view_is) (aimed_so old c.args.mark place h))
