use Rattle.std.proofs.Common.{◌≡◌, ◌∷◌, [], ap, arith, length, subst, sym}
use Rattle.cs_ir.proofs.Drafting.{draft_op, mark_there, unaimed_within}
use Rattle.cs_ir.specs.Drafts.{Draft, Grew, IsAt, drafted}
use Rattle.cs_ir.proofs.draft.CodeDraft.push.Goals as goal

pub push_step-requires : goal.push_step-requires
push_step-requires c = unaimed_within _ c.args.op.act c.requires

pub returns-clause-more : goal.returns-clause-more
returns-clause-more c =
    subst (λ (d : Draft). Grew c.args.self.now d (c.args.op ∷ [])) (sym c.in_ok-push_step.ensures.more)
    (draft_op c.args.self.now c.args.op c.in_ok-push_step.ensures.within c.requires)

pub returns-clause-mark : goal.returns-clause-mark
returns-clause-mark c =
    let long : length c.args.self.now.steps ≡ c.len-step.result =
    omega (arith, c.len-step.ensures, ap (λ (d : Draft). length d.steps) c.self.view_is) in
    subst (λ n. IsAt c.push_step.new.self n (length (drafted c.args.self.now))) long
    (subst (λ (d : Draft). IsAt d (length c.args.self.now.steps) (length (drafted c.args.self.now)))
    (sym c.in_ok-push_step.ensures.more) (mark_there c.args.self.now c.args.op))
