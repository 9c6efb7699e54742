use Rattle.std.proofs.Common.{◌≤◌, ◌∙◌, ◌^◌, length, ap, subst, sym}
use Rattle.std.specs.Global.{Vec}
use Rattle.cs_ir.specs.Routines.{AreRoutines, IsRoutineOf, library_in, ops_in}
use Rattle.cs_ir.specs.declared.routine.Routine.{Routine}
use Rattle.cs_typed.specs.TypedTree as typed
use Rattle.cs_code.proofs.Growing.{serve_as}
use Rattle.cs_code.proofs.codes.ops_of.Goals as goal

pub code_of-requires-clause-are : goal.code_of-requires-clause-are
code_of-requires-clause-are c =
    subst AreRoutines (sym (c.deref-2.ensures.value ∙ ap (λ (v : Vec Routine). v.items) c.deref.ensures)) c.requires.are

pub code_of-requires-clause-serve : goal.code_of-requires-clause-serve
code_of-requires-clause-serve c = (
  typed.routines c.args.orc.now.routines.items,
  serve_as c.args.context.pass c.args.context.spaces (typed.routines c.args.orc.now.routines.items) _ _ _ _
      (ap library_in (c.deref-2.ensures.value ∙ ap (λ (v : Vec Routine). v.items) c.deref.ensures))
      c.deref-3.ensures.value c.requires.serve,
)

pub new-requires-clause-routines : goal.new-requires-clause-routines
new-requires-clause-routines c =
    subst AreRoutines (sym (ap (λ (v : Vec Routine). v.items) c.in_ok-list.ensures)) c.requires.are

pub new-requires-clause-few : goal.new-requires-clause-few
new-requires-clause-few c =
    subst (λ l. length l ≤ 2 ^ 31) (sym (ap (λ (v : Vec Routine). v.items) c.in_ok-list.ensures)) c.requires.few

pub new-requires-clause-body : goal.new-requires-clause-body
new-requires-clause-body c =
    subst (λ l. IsRoutineOf (library_in l) c.in_ok-made.made.code)
    (c.deref-2.ensures.value ∙ ap (λ (v : Vec Routine). v.items) c.deref.ensures
    ∙ sym (ap (λ (v : Vec Routine). v.items) c.in_ok-list.ensures)) c.in_ok-made.ensures.is

-- the ops of a routine that may invoke the routines of a shared library
pub returns-clause-ops : goal.returns-clause-ops
returns-clause-ops c =
    let rs = typed.routines c.args.orc.now.routines.items in
    let lent = c.deref-2.ensures.value ∙ ap (λ (v : Vec Routine). v.items) c.deref.ensures in
    c.new.ensures ∙ ap (λ (v : Vec Routine). ops_in (library_in v.items) c.in_ok-made.made.code) c.in_ok-list.ensures
    ∙ ap (λ l. ops_in (library_in l) c.in_ok-made.made.code) (sym lent)
    ∙ c.in_ok-made.ensures.ops rs (serve_as c.args.context.pass c.args.context.spaces rs _ _ _ _ (ap library_in lent)
    c.deref-3.ensures.value c.requires.serve)

pub returns-clause-extent : goal.returns-clause-extent
returns-clause-extent c =
    let rs = typed.routines c.args.orc.now.routines.items in
    let lent = c.deref-2.ensures.value ∙ ap (λ (v : Vec Routine). v.items) c.deref.ensures in
    c.in_ok-made.ensures.extent rs (serve_as c.args.context.pass c.args.context.spaces rs _ _ _ _
    (ap library_in lent) c.deref-3.ensures.value c.requires.serve)
