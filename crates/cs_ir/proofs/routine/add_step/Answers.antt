use Rattle.std.proofs.Common.{◌∙◌, ap, arith, length, max, sym}
use Rattle.std.proofs.lemmas.{Bool.ltb-false, Result.on_ok_weaker}
use Rattle.cs_ir.proofs.{Libraries.found, Reaching.call_missing, Reaching.call_there}
use Rattle.cs_ir.specs.{Registers.at_kind, Routines.library_in, inner.Reaching.step_limit}
use Rattle.cs_ir.proofs.routine.add_step.Goals as goal

pub returns-in-Some : goal.returns-in-Some
returns-in-Some c =
    let list = c.args.routines.now in
    let call = c.in-Invoke.call in
    let h = c.in-Some.ensures.lookup in
    on_ok_weaker c.add_reached.result
    (λ reached k. reached k ∙ ap (max (at_kind c.args.limits.now k))
    (call_there list k call c.in-Some.routine.now c.requires (found list call.routine c.in-Some.routine.now h.0 h.1)
    ∙ ap (step_limit (library_in list) k) (sym c.in-Invoke.is))) c.add_reached.ensures

pub returns-in-None : goal.returns-in-None
returns-in-None c = λ k.
    let list = c.args.routines.now in
    let call = c.in-Invoke.call in
    let none = ap (step_limit (library_in list) k) c.in-Invoke.is
    ∙ call_missing list k call (ltb-false call.routine (length list) (sym c.in-None.ensures.lookup.0)) in
    omega (arith, none)
