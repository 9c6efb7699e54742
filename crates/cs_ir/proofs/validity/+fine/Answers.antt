use Rattle.std.proofs.Common.{◌*◌, ◌≡◌, ◌∙◌, ◌+◌, ◌<◌, ◌≤◌, Some, ap, arith, length, ltb-true, refl, slice_get, subst}
use Rattle.std.proofs.Common.{sym, take}
use Rattle.std.proofs.lemmas.{Bool.ltb-false, List.length-take-le, Option.slice_get_read}
use Rattle.cs_ir.specs.Flat.{flat, further, moved_ops, ops_at, window_of}
use Rattle.cs_ir.specs.{Routines.library_in, Validity.fine_from}
use Rattle.cs_ir.proofs.FineSteps.{IsTurn, call_turn, op_turn, passed, passed_all, passed_none, stopped}
use Rattle.cs_ir.proofs.{Libraries.routine_at, Libraries.routine_none, Lows.room_in}
use Rattle.cs_ir.proofs.validity.+fine.Goals.{are_fine-in-Do, are_fine-in-Invoke}
use Rattle.cs_ir.specs.declared.step.Step.TheVariants as step
use Rattle.cs_ir.proofs.validity.+fine.Goals as goal

pub are_fine-loop-at-init : goal.are_fine-loop-at-init
are_fine-loop-at-init t c =
    passed_none (library_in c.args.routines.now) c.args.steps.now c.args.window.now c.args.counts.now

pub are_fine-is_fine-fine-requires : goal.are_fine-is_fine-fine-requires
are_fine-is_fine-fine-requires t c = room_in (length c.args.routines.now) c.args.window.now c.requires

pub are_fine-returns-then-not-fine : goal.are_fine-returns-then-not-fine
are_fine-returns-then-not-fine t c =
    let rs = library_in c.args.routines.now in
    let ss = c.args.steps.now in
    let w = c.args.window.now in
    let counts = c.args.counts.now in
    let i = c.loop-at.at in
    let there : slice_get ss i ≡ Some c.index-steps-at.result =
    slice_get_read ss (length ss) i c.index-steps-at.result refl c.loop-at-test.true c.index-steps-at.is in
    let turn : IsTurn rs ss w counts i c.match-steps-at.fine = elim c.match-steps-at.branch [
      | are_fine-in-Do b ↦ subst (IsTurn rs ss w counts i) (sym (b.fine-is ∙ b.is_fine-fine.ensures))
          (op_turn rs ss w counts i b.in-Do.op (there ∙ ap Some b.in-Do.is))
      | are_fine-in-Invoke b ↦ subst (IsTurn rs ss w counts i) (sym b.fine-is)
          (call_turn rs ss w counts i b.in-Invoke.call b.is_call_fine-fine.result (there ∙ ap Some b.in-Invoke.is)
          b.is_call_fine-fine.ensures)
    ] in
    stopped rs ss w counts i c.match-steps-at.fine c.loop-at.invariant turn c.if-not-fine.true

pub are_fine-loop-at-preserved : goal.are_fine-loop-at-preserved
are_fine-loop-at-preserved t c =
    let rs = library_in c.args.routines.now in
    let ss = c.args.steps.now in
    let w = c.args.window.now in
    let counts = c.args.counts.now in
    let i = c.loop-at.at in
    let there : slice_get ss i ≡ Some c.index-steps-at.result =
    slice_get_read ss (length ss) i c.index-steps-at.result refl c.loop-at-test.true c.index-steps-at.is in
    let turn : IsTurn rs ss w counts i c.match-steps-at.fine = elim c.match-steps-at.branch [
      | are_fine-in-Do b ↦ subst (IsTurn rs ss w counts i) (sym (b.fine-is ∙ b.is_fine-fine.ensures))
          (op_turn rs ss w counts i b.in-Do.op (there ∙ ap Some b.in-Do.is))
      | are_fine-in-Invoke b ↦ subst (IsTurn rs ss w counts i) (sym b.fine-is)
          (call_turn rs ss w counts i b.in-Invoke.call b.is_call_fine-fine.result (there ∙ ap Some b.in-Invoke.is)
          b.is_call_fine-fine.ensures)
    ] in
    passed rs ss w counts i c.match-steps-at.fine c.loop-at.invariant turn c.if-not-fine.false

pub are_fine-returns : goal.are_fine-returns
are_fine-returns t c end place room =
    passed_all (library_in c.args.routines.now) c.args.steps.now c.args.window.now c.args.counts.now c.loop-at.at
    (omega (arith, c.loop-at-test.false)) c.loop-at.invariant end place room

pub is_call_fine-further-requires : goal.is_call_fine-further-requires
is_call_fine-further-requires t c = room_in (length c.args.routines.now) c.args.window.now c.requires

pub is_call_fine-are_fine-requires : goal.is_call_fine-are_fine-requires
is_call_fine-are_fine-requires t c =
    let list = c.args.routines.now in
    let call = c.args.call.now in
    let n = call.routine in
    let h = c.in-Some.ensures.lookup in
    let low : n < length list = ltb-true n (length list) (sym h.0) in
    let long : length (take n list) ≡ n = length-take-le n list (omega (arith, low)) in
    let whole : 2 * length list ≡ t = c.decreases in
    let less : 2 * length (take n list) + 1 < t = omega (arith, low, long, whole) in (
      less,
      c.further.ensures.low (length list) (length (take n list)) c.requires (omega (arith, low, long)),
    )

pub is_call_fine-returns-in-Some : goal.is_call_fine-returns-in-Some
is_call_fine-returns-in-Some t c end place room =
    let list = c.args.routines.now in
    let n = c.args.call.now.routine in
    let r = c.in-Some.routine.now in
    let h = c.in-Some.ensures.lookup in
    let there : slice_get list n ≡ Some r =
    slice_get_read list (length list) n r refl (ltb-true n (length list) (sym h.0)) h.1 in
    let is : flat (library_in (take n list)) c.steps.result.now ≡ ops_at (library_in list) n =
    ap (flat (library_in (take n list))) c.steps.ensures ∙ sym (routine_at list n r there) in
    c.are_fine.ensures end place (subst (λ ops. place + length ops ≤ end) (sym is) room)
    ∙ (λ i. fine_from c.args.counts.now end place (moved_ops (c.further.ensures.window i) place (is i)))

pub is_call_fine-returns-in-None : goal.is_call_fine-returns-in-None
is_call_fine-returns-in-None t c end place room =
    let list = c.args.routines.now in
    let n = c.args.call.now.routine in
    let h = c.in-None.ensures.lookup in
    sym (ap (λ ops. fine_from c.args.counts.now end place
    (moved_ops (further c.args.window.now (window_of c.args.call.now)) place ops))
    (routine_none list n (ltb-false n (length list) (sym h.0))))
