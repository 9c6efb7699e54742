use Rattle.std.proofs.Common.{◌≡◌, ◌∙◌, ◌+◌, ◌*◌, ◌<◌, ℕ, List, length, map, nat_lt, get_or, take, true, Some, arith}
use Rattle.std.proofs.Common.{refl, sym, ap, ltb-true}
use Rattle.std.specs.List.{list_all}
use Rattle.std.proofs.lemmas.{List.length-take-le, Result.IfOk-weaker, Bool.ltb-false}
use Rattle.cs_cells.specs.Cells.{cell}
use Rattle.cs_ir.proofs.{Lows.room_in, Libraries.found, Libraries.routine_at, Libraries.routine_none}
use Rattle.cs_ir.specs.Flat.{flat, further, leaves_room, ops_at, window_of}
use Rattle.cs_ir.specs.{Routines.library_in, Routines.steps_of, Validity.has_register, Values.holds, Waves.operand}
use Rattle.cs_ir.specs.{declared.op.Op.Op, declared.routine.Routine.Routine, declared.step.Step.Step}
use Rattle.cs_machine.specs.Registers.{values}
use Rattle.cs_voice.specs.{Ready.is_here, inner.Jumps.is_start, inner.Starters.asked, inner.Starters.finding}
use Rattle.cs_voice.proofs.Coming.{at_first, can_as, can_be_done, can_begin, can_call, comes_act, comes_held}
use Rattle.cs_voice.proofs.Coming.{comes_jump, comes_not, comes_on, does_all, does_as, does_nothing, does_refused}
use Rattle.cs_voice.proofs.Coming.{goes_on, gone_call, gone_start, is_started, is_there, jump_later, moved_start}
use Rattle.cs_voice.proofs.Coming.{never_as, never_call, never_op, reads, start_stays, stays, unless_later, unless_one}
use Rattle.cs_voice.proofs.run.+run.Goals as goal

pub steps_in-loop-place-init : goal.steps_in-loop-place-init
steps_in-loop-place-init g t c = at_first c.requires.able

-- ---- jumps

pub steps_in-loop-place-smaller-in-Jump : goal.steps_in-loop-place-smaller-in-Jump
steps_in-loop-place-smaller-in-Jump g t c =
    let later = jump_later c.loop-place.invariant (c.step_at.ensures ∙ ap Some c.in-Do.is) c.in-Jump.to c.in-Jump.is in
    omega (arith, later, c.loop-place-test.true)

pub steps_in-loop-place-preserved-in-Jump : goal.steps_in-loop-place-preserved-in-Jump
steps_in-loop-place-preserved-in-Jump g t c = goes_on c.loop-place.invariant refl refl
    (comes_jump c.loop-place.invariant (c.step_at.ensures ∙ ap Some c.in-Do.is) c.in-Jump.to c.in-Jump.is)

pub steps_in-condition-requires-clause-one : goal.steps_in-condition-requires-clause-one
steps_in-condition-requires-clause-one g t c =
    ap (λ (d : Op). length d.from) c.op.ensures.op
    ∙ unless_one c.loop-place.invariant (c.step_at.ensures ∙ ap Some c.in-Do.is) c.in-Unless.to c.in-Unless.is

pub steps_in-condition-requires-clause-there : goal.steps_in-condition-requires-clause-there
steps_in-condition-requires-clause-there g t c =
    ap (λ (d : Op). list_all (has_register c.loop-place.state.regs.counts) d.from) c.op.ensures.op
    ∙ reads c.loop-place.invariant (c.step_at.ensures ∙ ap Some c.in-Do.is)

pub steps_in-loop-place-preserved-then-condition : goal.steps_in-loop-place-preserved-then-condition
steps_in-loop-place-preserved-then-condition g t c = goes_on c.loop-place.invariant refl refl
    (comes_held c.loop-place.invariant (c.step_at.ensures ∙ ap Some c.in-Do.is) c.in-Unless.to c.in-Unless.is
    (sym (ap (λ (d : Op). holds (operand 0 (map (values c.loop-place.state.regs) d.from) 0)) c.op.ensures.op)
    ∙ sym c.condition.ensures ∙ c.if-condition.true))

pub steps_in-loop-place-smaller-else-condition : goal.steps_in-loop-place-smaller-else-condition
steps_in-loop-place-smaller-else-condition g t c =
    let later = unless_later c.loop-place.invariant (c.step_at.ensures ∙ ap Some c.in-Do.is) c.in-Unless.to
    c.in-Unless.is in
    omega (arith, later, c.loop-place-test.true)

pub steps_in-loop-place-preserved-else-condition : goal.steps_in-loop-place-preserved-else-condition
steps_in-loop-place-preserved-else-condition g t c = goes_on c.loop-place.invariant refl refl
    (comes_not c.loop-place.invariant (c.step_at.ensures ∙ ap Some c.in-Do.is) c.in-Unless.to c.in-Unless.is
    (sym (ap (λ (d : Op). holds (operand 0 (map (values c.loop-place.state.regs) d.from) 0)) c.op.ensures.op)
    ∙ sym c.condition.ensures ∙ c.if-condition.false))

-- ---- starts

pub steps_in-start-requires-clause-room : goal.steps_in-start-requires-clause-room
steps_in-start-requires-clause-room g t c =
    ap leaves_room c.op-in-Start.ensures.window
    ∙ room_in (length c.args.code.now.routines.now) c.args.code.now.window c.requires.low

pub steps_in-start-requires-clause-here : goal.steps_in-start-requires-clause-here
steps_in-start-requires-clause-here g t c =
    ap (λ (d : Op). is_start d.act) c.op-in-Start.ensures.op
    ∙ moved_start c.args.code.now.window c.in-Do.op.act ∙ is_started c.in-Do.op.act c.in-Start.is

pub steps_in-start-requires-clause-able : goal.steps_in-start-requires-clause-able
steps_in-start-requires-clause-able g t c =
    let st = is_started c.in-Do.op.act c.in-Start.is in
    can_begin c.loop-place.invariant (c.step_at.ensures ∙ ap Some c.in-Do.is) (start_stays c.in-Do.op.act st) st
    c.op-in-Start.ensures.op

pub steps_in-returns-in_err-refused-in-Start-clause-memory :
    goal.steps_in-returns-in_err-refused-in-Start-clause-memory
steps_in-returns-in_err-refused-in-Start-clause-memory g t c err =
    let st = is_started c.in-Do.op.act c.in-Start.is in
    never_op c.loop-place.invariant (c.step_at.ensures ∙ ap Some c.in-Do.is) (start_stays c.in-Do.op.act st) st

pub steps_in-returns-in_err-refused-in-Start-clause-same : goal.steps_in-returns-in_err-refused-in-Start-clause-same
steps_in-returns-in_err-refused-in-Start-clause-same g t c =
    c.in_err-refused-in-Start.ensures.same ∙ c.loop-place.invariant.same

pub steps_in-returns-in_err-refused-in-Start-clause-rest : goal.steps_in-returns-in_err-refused-in-Start-clause-rest
steps_in-returns-in_err-refused-in-Start-clause-rest g t c = c.loop-place.invariant.rest

pub steps_in-returns-in-Some-clause-same : goal.steps_in-returns-in-Some-clause-same
steps_in-returns-in-Some-clause-same g t c = c.in_ok-refused-in-Start.ensures.same ∙ c.loop-place.invariant.same

pub steps_in-returns-in-Some-clause-rest : goal.steps_in-returns-in-Some-clause-rest
steps_in-returns-in-Some-clause-rest g t c = c.loop-place.invariant.rest

pub steps_in-returns-in-Some-clause-does : goal.steps_in-returns-in-Some-clause-does
steps_in-returns-in-Some-clause-does g t c =
    let st = is_started c.in-Do.op.act c.in-Start.is in
    does_refused c.in-Some.is
    (gone_start c.loop-place.invariant (c.step_at.ensures ∙ ap Some c.in-Do.is) (start_stays c.in-Do.op.act st) st
    c.op-in-Start.ensures.op c.in_ok-refused-in-Start.ensures.does)

pub steps_in-loop-place-preserved-in-Start : goal.steps_in-loop-place-preserved-in-Start
steps_in-loop-place-preserved-in-Start g t c =
    let st = is_started c.in-Do.op.act c.in-Start.is in
    goes_on c.loop-place.invariant c.in_ok-refused-in-Start.ensures.same refl (comes_on c.in_default-refused.not-Some
    (gone_start c.loop-place.invariant (c.step_at.ensures ∙ ap Some c.in-Do.is) (start_stays c.in-Do.op.act st) st
    c.op-in-Start.ensures.op c.in_ok-refused-in-Start.ensures.does))

-- ---- other ops

pub steps_in-act-requires : goal.steps_in-act-requires
steps_in-act-requires g t c =
    let other = c.in_default in record {
      here = ap (λ (d : Op). is_here d.act) c.op-in_default.ensures.op
          ∙ is_there c.in-Do.op.act other.not-Jump other.not-Unless c.args.code.now.window other.not-Start
          other.not-Seek other.not-Ask;
      room = ap leaves_room c.op-in_default.ensures.window
          ∙ room_in (length c.args.code.now.routines.now) c.args.code.now.window c.requires.low;
      ready = can_be_done c.loop-place.invariant (c.step_at.ensures ∙ ap Some c.in-Do.is)
          (stays c.in-Do.op.act other.not-Jump other.not-Unless) c.op-in_default.ensures.op;
    }

pub steps_in-loop-place-preserved-in_default : goal.steps_in-loop-place-preserved-in_default
steps_in-loop-place-preserved-in_default g t c =
    let other = c.in_default in
    goes_on c.loop-place.invariant refl c.act.ensures.rest
    (comes_act c.loop-place.invariant (c.step_at.ensures ∙ ap Some c.in-Do.is)
    (stays c.in-Do.op.act other.not-Jump other.not-Unless)
    (is_there c.in-Do.op.act other.not-Jump other.not-Unless c.args.code.now.window other.not-Start other.not-Seek
    other.not-Ask) c.op-in_default.ensures.op c.act.ensures.does)

-- ---- calls

pub steps_in-invoke-requires : goal.steps_in-invoke-requires
steps_in-invoke-requires g t c κs within =
    let whole : 2 * length c.args.code.now.routines.now + 1 ≡ t = c.decreases in
    let less : 2 * length c.args.code.now.routines.now < t = omega (arith, whole) in (
      less,
      (
        within,
        (c.requires.low, can_call c.loop-place.invariant (c.step_at.ensures ∙ ap Some c.in-Invoke.is)),
      ),
    )

pub steps_in-returns-in_err-refused-in-Invoke-clause-memory :
    goal.steps_in-returns-in_err-refused-in-Invoke-clause-memory
steps_in-returns-in_err-refused-in-Invoke-clause-memory g t c err =
    never_call c.loop-place.invariant (c.step_at.ensures ∙ ap Some c.in-Invoke.is)
    (c.in_err-refused-in-Invoke.ensures.memory refl)

pub steps_in-returns-in_err-refused-in-Invoke-clause-same : goal.steps_in-returns-in_err-refused-in-Invoke-clause-same
steps_in-returns-in_err-refused-in-Invoke-clause-same g t c =
    c.in_err-refused-in-Invoke.ensures.same ∙ c.loop-place.invariant.same

pub steps_in-returns-in_err-refused-in-Invoke-clause-rest : goal.steps_in-returns-in_err-refused-in-Invoke-clause-rest
steps_in-returns-in_err-refused-in-Invoke-clause-rest g t c =
    c.in_err-refused-in-Invoke.ensures.rest ∙ c.loop-place.invariant.rest

pub steps_in-returns-in-Some-refused-clause-same : goal.steps_in-returns-in-Some-refused-clause-same
steps_in-returns-in-Some-refused-clause-same g t c =
    c.in_ok-refused-in-Invoke.ensures.same ∙ c.loop-place.invariant.same

pub steps_in-returns-in-Some-refused-clause-rest : goal.steps_in-returns-in-Some-refused-clause-rest
steps_in-returns-in-Some-refused-clause-rest g t c =
    c.in_ok-refused-in-Invoke.ensures.rest ∙ c.loop-place.invariant.rest

pub steps_in-returns-in-Some-refused-clause-does : goal.steps_in-returns-in-Some-refused-clause-does
steps_in-returns-in-Some-refused-clause-does g t c =
    does_refused c.in-Some-refused.is (gone_call c.loop-place.invariant (c.step_at.ensures ∙ ap Some c.in-Invoke.is)
    c.in_ok-refused-in-Invoke.ensures.does)

pub steps_in-loop-place-preserved : goal.steps_in-loop-place-preserved
steps_in-loop-place-preserved g t c =
    let made = c.in_ok-refused-in-Invoke.ensures in
    goes_on c.loop-place.invariant made.same made.rest (comes_on c.in_default-refused-2.not-Some
    (gone_call c.loop-place.invariant (c.step_at.ensures ∙ ap Some c.in-Invoke.is) made.does))

pub steps_in-returns-clause-does : goal.steps_in-returns-clause-does
steps_in-returns-clause-does g t c =
    does_all (omega (arith, c.loop-place-test.false)) c.loop-place.invariant.comes

-- ---- a routine

pub invoke-further-requires : goal.invoke-further-requires
invoke-further-requires g t c = room_in (length c.args.code.now.routines.now) c.args.code.now.window c.requires.low

-- the steps of an existing routine represent its ops
routine_is : (list : List Routine) (n : ℕ) (r : Routine) (steps : List Step) → true ≡ nat_lt n (length list)
    → r ≡ get_or list n r → steps ≡ steps_of r
    → (n < length list) × (flat (library_in (take n list)) steps ≡ ops_at (library_in list) n)
routine_is list n r steps there is same =
    let low : n < length list = ltb-true n (length list) (sym there) in (
      low,
      ap (flat (library_in (take n list))) same ∙ sym (routine_at list n r (found list n r there is)),
    )

pub invoke-steps_in-requires : goal.invoke-steps_in-requires
invoke-steps_in-requires g t c κs within =
    let list = c.args.code.now.routines.now in
    let n = c.args.call.now.routine in
    let h = c.in-Some.ensures.lookup in
    let is = routine_is list n c.in-Some.routine.now c.steps.result.now h.0 h.1 c.steps.ensures in
    let low : n < length list = is.0 in
    let long : length (take n list) ≡ n = length-take-le n list (omega (arith, low)) in
    let whole : 2 * length list ≡ t = c.decreases in
    let less : 2 * length (take n list) + 1 < t = omega (arith, low, long, whole) in (
      less,
      (
        within,
        (
          c.further.ensures.low (length list) (length (take n list)) c.requires.low (omega (arith, low, long)),
          can_as (sym c.further.ensures.window) (sym is.1) c.requires.able,
        ),
      ),
    )

pub invoke-returns-in-Some-clause-does : goal.invoke-returns-in-Some-clause-does
invoke-returns-in-Some-clause-does g t c =
    let h = c.in-Some.ensures.lookup in
    let is = routine_is c.args.code.now.routines.now c.args.call.now.routine c.in-Some.routine.now c.steps.result.now
    h.0 h.1 c.steps.ensures in
    IfOk-weaker c.steps_in.result _ _ (λ refused does. does_as c.further.ensures.window is.1 does)
    c.steps_in.ensures.does

pub invoke-returns-in-Some-clause-memory : goal.invoke-returns-in-Some-clause-memory
invoke-returns-in-Some-clause-memory g t c err =
    let h = c.in-Some.ensures.lookup in
    let is = routine_is c.args.code.now.routines.now c.args.call.now.routine c.in-Some.routine.now c.steps.result.now
    h.0 h.1 c.steps.ensures in
    never_as c.further.ensures.window is.1 (c.steps_in.ensures.memory err)

pub invoke-returns-in-None-clause-does : goal.invoke-returns-in-None-clause-does
invoke-returns-in-None-clause-does g t c =
    let list = c.args.code.now.routines.now in
    let n = c.args.call.now.routine in
    let h = c.in-None.ensures.lookup in
    does_nothing (g.B.Bank.access (g.B.Bank.rest c.args.bank.now)) c.args.at.now (finding c.args.starter.now)
    (further c.args.code.now.window (window_of c.args.call.now)) (ops_at (library_in list) n) c.args.state.now
    (cell (g.B.Bank.cells c.args.bank.now)) (asked c.args.starter.now)
    (routine_none list n (ltb-false n (length list) (sym h.0)))
