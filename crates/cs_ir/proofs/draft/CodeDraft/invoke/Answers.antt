use Rattle.std.proofs.Common.{◌≡◌, ◌++◌, ◌∷◌, [], ℕ, length, subst, sym, IfSome, List}
use Rattle.cs_ir.proofs.Drafting.{draft_call}
use Rattle.cs_ir.specs.{Drafts.Draft, Drafts.Grew, Drafts.drafted, Drafts.library_of, Flat.moved_ops, Flat.ops_at}
use Rattle.cs_ir.specs.{Flat.window_of, Routines.library_in, declared.op.Op.Op, declared.step.Call.Call}
use Rattle.cs_ir.specs.declared.step.Step.TheVariants as step
use Rattle.cs_ir.proofs.draft.CodeDraft.invoke.Goals as goal

pub returns-in_ok-push_step : goal.returns-in_ok-push_step
returns-in_ok-push_step c =
    subst (λ (d : Draft). Grew c.args.self.now d target) (sym c.in_ok-push_step.ensures.more)
    (subst (Grew c.args.self.now
    (record c.args.self.now { steps = c.args.self.now.steps ++ step.Invoke c.in-Some.call ∷ [] }))
    (same (length (drafted c.args.self.now)))
    (draft_call c.args.self.now c.in-Some.call c.in_ok-push_step.ensures.within))
  where
    target : List Op
    target = moved_ops (window_of c.args.call) (length (drafted c.args.self.now))
        (ops_at (library_of c.args.self.now) c.args.call.routine)

    found : (place : ℕ) → moved_ops (window_of c.in-Some.call) place
        (ops_at (library_in c.self.inside.routines.now) c.in-Some.call.routine)
        ≡ moved_ops (window_of c.args.call) place (ops_at (library_in c.self.inside.routines.now) c.args.call.routine)
    found = subst (λ o. IfSome o (λ (x : Call). (place : ℕ)
        → moved_ops (window_of x) place (ops_at (library_in c.self.inside.routines.now) x.routine)
        ≡ moved_ops (window_of c.args.call) place (ops_at (library_in c.self.inside.routines.now) c.args.call.routine)))
        c.in-Some.is c.in_ok-call.ensures.some

    same : (place : ℕ)
        → moved_ops (window_of c.in-Some.call) place (ops_at (library_of c.args.self.now) c.in-Some.call.routine)
        ≡ moved_ops (window_of c.args.call) place (ops_at (library_of c.args.self.now) c.args.call.routine)
    same = subst (λ (d : Draft). (place : ℕ)
        → moved_ops (window_of c.in-Some.call) place (ops_at (library_of d) c.in-Some.call.routine)
        ≡ moved_ops (window_of c.args.call) place (ops_at (library_of d) c.args.call.routine)) c.self.view_is found
