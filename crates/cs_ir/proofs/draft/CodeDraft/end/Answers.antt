use Rattle.std.proofs.Common.{◌≡◌, ap, subst, IfOk}
use Rattle.std.proofs.lemmas.Result.{IfOk-weaker}
use Rattle.cs_ir.specs.{Drafts.Draft, Drafts.drafted, Drafts.library_of, Flat.flat, declared.routine.Routine.Routine}
use Rattle.cs_ir.specs.Routines.{IsRoutineOf, library_in, ops_in, steps_of}
use Rattle.cs_ir.proofs.draft.CodeDraft.end.Goals as goal

pub returns-clause-ops : goal.returns-clause-ops
returns-clause-ops c =
    subst (λ (d : Draft). IfOk c.of.result (λ r. ops_in (library_of d) r ≡ drafted d)) c.self.view_is
    (IfOk-weaker c.of.result (λ (r : Routine). steps_of r ≡ c.self.inside.steps.items)
    (λ (r : Routine). ops_in (library_in c.self.inside.routines.now) r
    ≡ flat (library_in c.self.inside.routines.now) c.self.inside.steps.items)
    (λ r same. ap (flat (library_in c.self.inside.routines.now)) same) c.of.ensures.steps)

pub returns-clause-is : goal.returns-clause-is
returns-clause-is c =
    subst (λ (d : Draft). IfOk c.of.result (λ r. IsRoutineOf (library_of d) r)) c.self.view_is c.of.ensures.is
