use Rattle.std.proofs.Common.{◌≡◌, ◌∙◌, ◌+◌, ◌++◌, [], sym, ap, subst, length}
use Rattle.cs_ir.specs.{Drafts.drafted, Drafts.library_of, Routines.IsRoutineOf, Routines.library_in, Routines.ops_in}
use Rattle.cs_code.specs.{inner.Code.pass_block_code, inner.Kept.start, inner.Served.Serve}
use Rattle.cs_code.specs.inner.Emitted.{block_in, scope_of}
use Rattle.cs_code.proofs.routines.code_of.Goals as goal

pub returns-clause-is : goal.returns-clause-is
returns-clause-is c =
    let rs = c.requires.serve.0 in
    let library : library_of c.new-ops.result ≡ library_in c.args.routines.now = c.new-ops.ensures.routines in
    let serves = subst (λ l. Serve c.args.context.pass c.args.context.spaces rs l c.args.extents.now) (sym library)
    c.requires.serve.1 in
    subst (λ l. IsRoutineOf l c.in_ok-end.field-0) ((c.in_ok-extent.ensures rs serves).ops.routines ∙ library)
    c.in_ok-end.ensures.is

pub returns-clause-ops : goal.returns-clause-ops
returns-clause-ops c = λ rs serve.
    let sp = c.args.context.spaces in
    let way = c.args.context.pass in
    let begun = c.new-ops.result in
    let empty : drafted begun ≡ [] = c.new-ops.ensures.ops in
    let library : library_of begun ≡ library_in c.args.routines.now = c.new-ops.ensures.routines in
    let serves = subst (λ l. Serve way sp rs l c.args.extents.now) (sym library) serve in
    let grew = (c.in_ok-extent.ensures rs serves).ops in
    sym (ap (λ l. ops_in l c.in_ok-end.field-0) (grew.routines ∙ library)) ∙ c.in_ok-end.ensures.ops ∙ grew.ops
    ∙ ap (λ l. l ++ pass_block_code way (length l) start (block_in (scope_of sp rs) c.args.stmts.now)) empty

pub returns-clause-extent : goal.returns-clause-extent
returns-clause-extent c = λ rs serve.
    (c.in_ok-extent.ensures rs (subst (λ l. Serve c.args.context.pass c.args.context.spaces rs l c.args.extents.now)
    (sym c.new-ops.ensures.routines) serve)).next
