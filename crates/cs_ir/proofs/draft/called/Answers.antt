use Rattle.std.proofs.Common.{◌≡◌, ◌∙◌, ◌<◌, ap, arith, get_or, length, ltb-true, rules, subst, sym, List, ℕ}
use Rattle.std.proofs.lemmas.{Bool.ltb-false, List.nil_from_length}
use Rattle.cs_ir.proofs.Libraries.{called_once, found, one_call, routine_empty, routine_none}
use Rattle.cs_ir.specs.Flat.{further, moved_ops, ops_at, window_of}
use Rattle.cs_ir.specs.{Routines.library_in, declared.op.Op.Op, declared.routine.Routine.Routine}
use Rattle.cs_ir.specs.declared.step.Call.{Call}
use Rattle.cs_ir.specs.declared.step.Step.TheVariants as step
use Rattle.cs_ir.proofs.draft.called.Goals as goal

pub returns-in_default-clause-none : goal.returns-in_default-clause-none
returns-in_default-clause-none c = λ e.
    routine_none c.args.routines.now c.args.call.routine
    (ltb-false c.args.call.routine (length c.args.routines.now) (sym c.in_default.ensures.lookup.0))

pub returns-in-empty-clause-none : goal.returns-in-empty-clause-none
returns-in-empty-clause-none c = λ e.
    let list : List Routine = c.args.routines.now in
    let r : Routine = c.in-Some.routine.now in
    let h = c.in-Some.ensures.lookup in
    let none : length c.steps.result.now ≡ 0 = omega (arith, c.in-empty.len_below) in
    routine_empty list c.args.call.routine r (found list c.args.call.routine r h.0 h.1)
    (sym c.steps.ensures ∙ nil_from_length c.steps.result.now none)

pub returns-in-Some-further-clause-some : goal.returns-in-Some-further-clause-some
returns-in-Some-further-clause-some c place =
    let list : List Routine = c.args.routines.now in
    let rs : List (List Op) = library_in list in
    let n = c.args.call.routine in
    let inner : Call = c.in-Invoke.inner in
    let both : Call = c.in-Some-further.both in
    let h = c.in-Some.ensures.lookup in
    let low : n < length list = ltb-true n (length list) (sym h.0) in
    let first : get_or c.steps.result.now 0 c.in-Invoke.result-1-own.given.0 ≡ step.Invoke inner = search rules in
    let window : window_of both ≡ further (window_of c.args.call) (window_of inner) = search rules in
    let routine : both.routine ≡ inner.routine = search rules in
    let earlier : inner.routine < n =
    subst (λ (k : ℕ). k < n) (sym c.in-Some-further.ensures.routine ∙ routine) c.if-inner-call.true in
    ap (λ w. moved_ops w place (ops_at rs both.routine)) window
    ∙ ap (λ k. moved_ops (further (window_of c.args.call) (window_of inner)) place (ops_at rs k)) routine
    ∙ called_once list n c.in-Some.routine.now c.args.call inner (found list n c.in-Some.routine.now h.0 h.1)
    (omega (arith, low)) (sym c.steps.ensures ∙ one_call c.steps.result.now _ inner c.in-Invoke.len_at_least
    c.in-Invoke.len_below first) earlier place
