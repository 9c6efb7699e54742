use Rattle.std.proofs.Common.{◌≡◌, ap, length, subst, sym, true, List}
use Rattle.cs_ir.proofs.Drafting.{within_more}
use Rattle.cs_ir.specs.{Drafts.Draft, Flat.are_within, Flat.is_within, declared.step.Step.Step}
use Rattle.cs_ir.proofs.draft.CodeDraft.push_step.Goals as goal

pub invariant_of-self-2 : goal.invariant_of-self-2
invariant_of-self-2 c = (
  c.self.invariant.0,
  subst (λ (l : List Step). are_within (length l) l ≡ true) (sym c.in_ok-push.ensures.items)
      (within_more c.self.inside.steps.items c.args.step c.self.invariant.1
      (subst (λ n. is_within n c.args.step ≡ true) (sym (ap (λ d. length d.steps) c.self.view_is)) c.requires)),
)

pub returns-clause-within : goal.returns-clause-within
returns-clause-within c =
    subst (λ (d : Draft). are_within (length d.steps) d.steps ≡ true) c.self.view_is c.self.invariant.1
