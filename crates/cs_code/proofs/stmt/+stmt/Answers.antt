use Rattle.std.proofs.Common.{◌≡◌, ◌∙◌, ◌+◌, ◌*◌, ◌<◌, ◌≤◌, ◌++◌, ◌∷◌, [], arith, rules, drop, length, map, sym, ap}
use Rattle.std.proofs.Common.{subst, IfOk, append-nil}
use Rattle.std.specs.List.{AllZip}
use Rattle.std.proofs.lemmas.List.{append_assoc, drop_all}
use Rattle.cs_ir.proofs.Drafting.{grew_on}
use Rattle.cs_ir.specs.Drafts.{Grew, IsAt, drafted}
use Rattle.cs_typed.proofs.Trees.{typed_block_is, typed_arms_is}
use Rattle.cs_typed.specs.declared.tree.TypedWhat.TheViews.{the_lemmas}
use Rattle.cs_code.specs.inner.Branches.{body_of, branch_of, branches, condition_of, each_code, joined, jump_at, jumps}
use Rattle.cs_code.specs.inner.Branches.{opened, past_list}
use Rattle.cs_code.specs.inner.Code.{cond_code, keep_code, pass_block_code}
use Rattle.cs_code.specs.inner.Emitted.{block_in, core_in, each_arm_code, scope_of}
use Rattle.cs_code.specs.{inner.Kept.past_block, inner.Kept.past_parts, inner.Served.Lowered, inner.Spots.op_of}
use Rattle.cs_code.proofs.Branches.{all_choice, arm_made, arm_marked, body_begins, each_more, jumps_more, one_choice}
use Rattle.cs_code.proofs.{Branches.opened_more, Branches.past_choice, Lists.dropped, Weights.one_weight}
use Rattle.cs_code.proofs.Chains.{block_more, past_more, taken_pass}
use Rattle.cs_code.proofs.Growing.{grew_long, leads_end, leads_on, lowered, ok_then, serve_on}
use Rattle.cs_code.proofs.Weights.{all_weight, body_in_list, body_weight, choice_less, list_weight, one_in_all}
use Rattle.cs_ir.specs.declared.op.Act.TheVariants as act
use Rattle.cs_typed.specs.TypedTree as typed
use Rattle.cs_code.specs.declared.frame.Pass.TheVariants as pass
use Rattle.cs_code.proofs.stmt.+stmt.Goals as goal

-- ---- the statements of a block

pub block-loop-s-preserved : goal.block-loop-s-preserved
block-loop-s-preserved t c = λ rs serve.
    let way = c.args.context.pass in
    let o = scope_of c.args.context.spaces rs in
    let was = c.loop-s.invariant rs serve in
    let i = c.loop-s.s-index in
    let x = c.s-item.result in
    let here = c.loop-s.ops in
    let next = c.stmt.new.ops in
    let p = c.loop-s.next in
    let q = c.in_ok-next.next in
    let serves = serve_on way c.args.context.spaces rs c.args.extents.now c.args.ops.now here was.0 serve in
    let made = c.in_ok-next.ensures rs serves in
    let grew = made.ops in
    let past_it = made.next in
    let one = typed.statement rs x in
    let all = typed.block rs (drop i c.args.stmts.now) in
    let rest = typed.block rs (drop (i + 1) c.args.stmts.now) in
    let split : all ≡ typed.then_block one rest =
    ap (typed.block rs) (dropped c.args.stmts.now i x (omega arith) c.s-item.is) in (
      grew.routines ∙ was.0,
      leads_on c.args.ops.now here next (pass_block_code way (length (drafted here)) p (core_in o one)) _
          (pass_block_code way (length (drafted next)) q (core_in o rest)) _ was.1 grew
          (block_more way o (length (drafted here)) (length (drafted next)) p q all one rest split past_it
          (grew_long here next _ grew)),
      sym (past_more o p q all one rest split past_it) ∙ was.2,
    )

pub block-returns : goal.block-returns
block-returns t c = λ rs serve.
    let here = c.loop-s.ops in
    let o = scope_of c.args.context.spaces rs in
    let was = c.loop-s.invariant rs serve in
    let none = drop_all c.loop-s.s-index c.args.stmts.now (omega (arith, c.loop-s-test.false)) in
    record {
      ops = leads_end c.args.ops.now here _ _ was.1
          (ap (λ xs. pass_block_code c.args.context.pass (length (drafted here)) c.loop-s.next (block_in o xs)) none);
      next = sym (ap (λ xs. past_block c.loop-s.next (block_in o xs)) none) ∙ was.2;
    }

-- ---- a statement

pub stmt-returns-in_ok-next-in-Choose : goal.stmt-returns-in_ok-next-in-Choose
stmt-returns-in_ok-next-in-Choose t c = λ rs serve.
    let sp = c.args.context.spaces in
    let way = c.args.context.pass in
    let old = c.args.ops.now in
    let mid = c.each_arm.new.ops in
    let seen : typed.statement rs c.args.s.now ≡ typed.alone (typed.choose c.args.s.now.line c.args.s.now.rate
    (typed.arms rs (typed.block rs c.in-Choose.els.items) c.in-Choose.arms.items)) =
    search (rules, the_lemmas, typed_block_is rs, typed_arms_is rs, c.in-Choose.is) in
    let made = c.in_ok-next-in-Choose.ensures rs serve in
    let serves = serve_on way sp rs c.args.extents.now old mid made.0.routines serve in
    ok_then c.block.result (c.block.ensures rs serves) (λ q done. record {
      ops = all_choice (scope_of sp rs) _ _ _ _ _ _ _ seen c.deref-then-takes_all.ensures.value
          c.deref-then-takes_all-2.ensures.value c.args.p c.in_ok-next-in-Choose.next made.1 way
          (sym c.takes_all.ensures ∙ c.if-takes_all.true) old mid c.block.new.ops made.0 done.ops;
      next = done.next ∙ past_choice (scope_of sp rs) _ _ _ _ _ _ _ seen c.deref-then-takes_all.ensures.value
          c.deref-then-takes_all-2.ensures.value c.args.p c.in_ok-next-in-Choose.next made.1;
    })

pub stmt-returns-in_ok-done-in-Choose : goal.stmt-returns-in_ok-done-in-Choose
stmt-returns-in_ok-done-in-Choose t c = λ rs serve.
    let sp = c.args.context.spaces in
    let way = c.args.context.pass in
    let old = c.args.ops.now in
    let mid = c.arms_of.new.ops in
    let seen : typed.statement rs c.args.s.now ≡ typed.alone (typed.choose c.args.s.now.line c.args.s.now.rate
    (typed.arms rs (typed.block rs c.in-Choose.els.items) c.in-Choose.arms.items)) =
    search (rules, the_lemmas, typed_block_is rs, typed_arms_is rs, c.in-Choose.is) in
    let made = c.in_ok-last-in-Choose.ensures rs serve in
    let serves = serve_on way sp rs c.args.extents.now old mid made.0.routines serve in
    let done = c.in_ok-done-in-Choose.ensures rs serves in
    record {
      ops = one_choice (scope_of sp rs) _ _ _ _ _ _ _ seen c.deref-else-takes_all.ensures.value
          c.deref-else-takes_all-2.ensures.value c.args.p c.in_ok-last-in-Choose.last made.2 way
          (sym c.takes_all.ensures ∙ c.if-takes_all.false) old mid c.block-else-takes_all.new.ops c.aim_all.new.ops
          c.new-ends.result.items c.arms_of.new.ends.items c.deref-else-takes_all-3.result.now c.new-ends.ensures.items
          c.deref-else-takes_all-3.ensures.value made.0 made.1 done.ops c.aim_all.ensures;
      next = done.next ∙ past_choice (scope_of sp rs) _ _ _ _ _ _ _ seen c.deref-else-takes_all.ensures.value
          c.deref-else-takes_all-2.ensures.value c.args.p c.in_ok-last-in-Choose.last made.2;
    }

pub stmt-returns-in-Set : goal.stmt-returns-in-Set
stmt-returns-in-Set t c = λ rs serve.
    let way = c.args.context.pass in
    let o = scope_of c.args.context.spaces rs in
    let old = c.args.ops.now in
    let seen : typed.statement rs c.args.s.now
    ≡ typed.alone (typed.set c.args.s.now.line c.args.s.now.rate c.in-Set.v (typed.expression c.in-Set.e)) =
    search (rules, c.in-Set.is) in
    subst (λ x. IfOk c.assign.result (λ q. Lowered way old c.assign.new.ops c.args.p q (core_in o x))) (sym seen)
    (lowered way old c.assign.new.ops c.args.p _ c.assign.result c.assign.ensures.ops c.assign.ensures.next)

pub stmt-returns-in-Call : goal.stmt-returns-in-Call
stmt-returns-in-Call t c = λ rs serve.
    let way = c.args.context.pass in
    let o = scope_of c.args.context.spaces rs in
    let old = c.args.ops.now in
    let r = c.args.s.now.rate in
    let k = c.in-Call.opcode in
    let seen : typed.statement rs c.args.s.now
    ≡ typed.alone (typed.call c.args.s.now.line r c.in-Call.results k (map typed.argument c.in-Call.args.items)) =
    search (rules, c.in-Call.is) in
    let given = c.as_slice.ensures in
    let lent = c.deref.ensures.value in
    subst (λ b. IfOk c.call.result (λ q. Lowered way old c.call.new.ops c.args.p q b))
    ((λ i. core_in o (typed.alone (typed.call 0 r (given i) k (map typed.argument (lent i)))))
    ∙ sym (ap (core_in o) seen)) c.call.ensures

pub stmt-returns-in-Invoke : goal.stmt-returns-in-Invoke
stmt-returns-in-Invoke t c = λ rs serve.
    let o = scope_of c.args.context.spaces rs in
    let seen : typed.statement rs c.args.s.now
    ≡ typed.moved_block c.in-Invoke.base (typed.routine_at rs c.in-Invoke.number) = search (rules, c.in-Invoke.is) in
    subst (λ x. IfOk c.invoke.result (λ q. Lowered c.args.context.pass c.args.ops.now c.invoke.new.ops c.args.p q
    (core_in o x))) (sym seen) (c.invoke.ensures rs serve)

-- ---- arms that are all initialised

pub each_arm-loop-a-preserved : goal.each_arm-loop-a-preserved
each_arm-loop-a-preserved t c = λ rs serve.
    let way = c.args.context.pass in
    let o = scope_of c.args.context.spaces rs in
    let was = c.loop-a.invariant rs serve in
    let i = c.loop-a.a-index in
    let x = c.a-item.result in
    let here = c.loop-a.ops in
    let next = c.one_arm.new.ops in
    let p = c.loop-a.next in
    let q = c.in_ok-next.next in
    let serves = serve_on way c.args.context.spaces rs c.args.extents.now c.args.ops.now here was.0 serve in
    let made = c.in_ok-next.ensures rs serves in
    let grew = made.0 in
    let past_it = made.1 in
    let arms = drop i c.args.arms.now in
    let rest = drop (i + 1) c.args.arms.now in
    let split : arms ≡ x ∷ rest = dropped c.args.arms.now i x (omega arith) c.a-item.is in (
      grew.routines ∙ was.0,
      leads_on c.args.ops.now here next (each_arm_code (length (drafted here)) p (condition_of x) (body_of o x)) _
          (each_code o (length (drafted next)) q rest) _ was.1 grew
          (each_more o (length (drafted here)) (length (drafted next)) p q arms x rest split past_it
          (grew_long here next _ grew)),
      ap (λ k. past_list o k rest) past_it ∙ sym (ap (past_list o p) split) ∙ was.2,
    )

pub each_arm-returns : goal.each_arm-returns
each_arm-returns t c = λ rs serve.
    let here = c.loop-a.ops in
    let o = scope_of c.args.context.spaces rs in
    let was = c.loop-a.invariant rs serve in
    let none = drop_all c.loop-a.a-index c.args.arms.now (omega (arith, c.loop-a-test.false)) in (
      leads_end c.args.ops.now here _ _ was.1 (ap (each_code o (length (drafted here)) c.loop-a.next) none),
      sym (ap (past_list o c.loop-a.next) none) ∙ was.2,
    )

pub one_arm-returns : goal.one_arm-returns
one_arm-returns t c = λ rs serve.
    let sp = c.args.context.spaces in
    let o = scope_of sp rs in
    let way = c.args.context.pass in
    let old = c.args.ops.now in
    let first = c.condition.new.ops in
    let p = c.args.p in
    let e = condition_of c.args.arm.now in
    let cond = keep_code p.part e in
    let at = past_parts c.in_ok-spot.spot.next p in
    let begun : Grew old first cond =
    subst (λ w. Grew old first (cond_code w p.part e)) c.requires c.in_ok-spot.ensures.ops in
    let serves = serve_on way sp rs c.args.extents.now old first begun.routines serve in
    let body = c.deref.ensures.value in
    ok_then c.block.result (c.block.ensures rs serves) (λ q done. (
      grew_on old first c.block.new.ops cond _ begun (subst (Grew first c.block.new.ops)
          (ap (λ xs. pass_block_code way (length (drafted first)) at (block_in o xs)) body
          ∙ ap (λ w. pass_block_code w (length (drafted first)) at (body_of o c.args.arm.now)) c.requires
          ∙ ap (λ n. pass_block_code pass.Initialisation n at (body_of o c.args.arm.now))
          (grew_long old first cond begun)
          ∙ ap (λ n. pass_block_code pass.Initialisation (length (drafted old) + length cond) (past_parts n p)
          (body_of o c.args.arm.now)) c.in_ok-spot.ensures.next) done.ops),
      done.next ∙ ap (λ xs. past_block at (block_in o xs)) body
          ∙ ap (λ n. past_block (past_parts n p) (body_of o c.args.arm.now)) c.in_ok-spot.ensures.next,
    ))

-- ---- arms of which one is performed

pub arms_of-loop-a-preserved : goal.arms_of-loop-a-preserved
arms_of-loop-a-preserved t c = λ rs serve.
    let way = c.args.context.pass in
    let o = scope_of c.args.context.spaces rs in
    let was = c.loop-a.invariant rs serve in
    let i = c.loop-a.a-index in
    let x = c.a-item.result in
    let here = c.loop-a.ops in
    let next = c.arm.new.ops in
    let p = c.loop-a.next in
    let q = c.in_ok-next.next in
    let at = length (drafted here) in
    let on = length (drafted next) in
    let serves = serve_on way c.args.context.spaces rs c.args.extents.now c.args.ops.now here was.0 serve in
    let made = c.in_ok-next.ensures rs serves in
    let grew = made.0 in
    let past_it = made.2 in
    let long = grew_long here next _ grew in
    let arms = drop i c.args.arms.now in
    let rest = drop (i + 1) c.args.arms.now in
    let split : arms ≡ x ∷ rest = dropped c.args.arms.now i x (omega arith) c.a-item.is in
    let one = branch_of way o at p x in (
      grew.routines ∙ was.0,
      leads_on c.args.ops.now here next (joined at one 0) _ (opened on (branches way o on q rest)) _ was.1 grew
          (opened_more way o at on p q arms x rest split past_it long),
      λ places marked. let found = was.2 places marked in (
        found.0 ++ jump_at at one ∷ [],
        made.1 found.0 found.1,
        append_assoc found.0 (jump_at at one ∷ []) (jumps on (branches way o on q rest))
            ∙ sym (ap (λ l. found.0 ++ l) (jumps_more way o at on p q arms x rest split past_it long)) ∙ found.2,
      ),
      ap (λ k. past_list o k rest) past_it ∙ sym (ap (past_list o p) split) ∙ was.3,
    )

pub arms_of-returns : goal.arms_of-returns
arms_of-returns t c = λ rs serve.
    let here = c.loop-a.ops in
    let at = length (drafted here) in
    let o = scope_of c.args.context.spaces rs in
    let was = c.loop-a.invariant rs serve in
    let none = drop_all c.loop-a.a-index c.args.arms.now (omega (arith, c.loop-a-test.false)) in (
      leads_end c.args.ops.now here _ _ was.1
          (ap (λ xs. opened at (branches c.args.context.pass o at c.loop-a.next xs)) none),
      λ places marked. let found = was.2 places marked in
          subst (AllZip (IsAt here) c.loop-a.ends.items) (sym (append-nil found.0)
          ∙ sym (ap (λ xs. found.0 ++ jumps at (branches c.args.context.pass o at c.loop-a.next xs)) none) ∙ found.2)
          found.1,
      sym (ap (past_list o c.loop-a.next) none) ∙ was.3,
    )

pub arm-returns : goal.arm-returns
arm-returns t c = λ rs serve.
    let sp = c.args.context.spaces in
    let o = scope_of sp rs in
    let way = c.args.context.pass in
    let p = c.args.p in
    let old = c.args.ops.now in
    let b = branch_of way o (length (drafted old)) p c.args.arm.now in
    let is = c.in_ok-spot.ensures in
    let first = c.condition.new.ops in
    let tested = c.jump.new.ops in
    let filled = c.block.new.ops in
    let jumped = c.jump-2.new.ops in
    let tests : Grew first tested (op_of (act.Unless 0) b.q (b.q ∷ []) ∷ []) =
    subst (λ y. Grew first tested (y ∷ [])) (ap (λ xs. op_of (act.Unless 0) c.in_ok-spot.spot.reg xs) c.one.ensures
    ∙ ap (λ x. op_of (act.Unless 0) x (x ∷ [])) is.reg) c.in_ok-test.ensures.more in
    let serves = serve_on way sp rs c.args.extents.now old tested (tests.routines ∙ is.ops.routines) serve in
    let done = c.in_ok-next.ensures rs serves in
    let fills : Grew tested filled b.body =
    subst (Grew tested filled)
    (ap (λ xs. pass_block_code way (length (drafted tested)) (past_parts c.in_ok-spot.spot.next p) (block_in o xs))
    c.deref.ensures.value
    ∙ ap (λ n. pass_block_code way n (past_parts c.in_ok-spot.spot.next p) (body_of o c.args.arm.now))
    (body_begins old first tested b.cond _ is.ops tests)
    ∙ ap (λ n. pass_block_code way (length (drafted old) + length b.cond + 1) (past_parts n p)
    (body_of o c.args.arm.now)) is.next) done.ops in
    let over : Grew filled jumped (op_of (act.Jump 0) b.q [] ∷ []) =
    subst (λ y. Grew filled jumped (y ∷ [])) (ap (λ xs. op_of (act.Jump 0) c.in_ok-spot.spot.reg xs) c.none.ensures
    ∙ ap (λ x. op_of (act.Jump 0) x []) is.reg) c.in_ok-end.ensures.more in (
      arm_made old first tested filled jumped c.aim.new.self b.cond b.body b.q c.in_ok-test.test is.ops tests
          c.in_ok-test.ensures.mark fills over c.aim.ensures,
      λ places marked. subst (λ l. AllZip (IsAt c.aim.new.self) l (places ++ jump_at (length (drafted old)) b ∷ []))
          (sym c.in_ok-push.ensures.items)
          (arm_marked old first tested filled jumped c.aim.new.self b.cond b.body b.q c.in_ok-test.test is.ops tests
          c.in_ok-test.ensures.mark fills over c.aim.ensures c.in_ok-end.end c.in_ok-end.ensures.mark
          c.args.ends.now.items places marked),
      done.next ∙ ap (λ xs. past_block (past_parts c.in_ok-spot.spot.next p) (block_in o xs)) c.deref.ensures.value
          ∙ ap (λ n. past_block (past_parts n p) (body_of o c.args.arm.now)) is.next,
    )

-- ---- the remaining weight decreases at each call

pub block-stmt-requires : goal.block-stmt-requires
block-stmt-requires t c =
    let x = c.s-item.result in
    let start : 4 * all_weight c.args.stmts.now + 3 ≡ t = c.decreases in
    let part : one_weight x ≤ all_weight c.args.stmts.now =
    one_in_all c.args.stmts.now c.loop-s.s-index x (omega (arith, c.loop-s-test.true)) c.s-item.is in
    let less : 4 * one_weight x + 2 < t = omega (arith, start, part) in (less, tt)

pub stmt-each_arm-requires : goal.stmt-each_arm-requires
stmt-each_arm-requires t c =
    let less = choice_less t c.args.s.now.line c.args.s.now.rate c.args.s.now c.in-Choose.els.items
    c.in-Choose.arms.items c.decreases
    (search (rules, the_lemmas, typed_block_is [], typed_arms_is [], c.in-Choose.is)) in (
      subst (λ arms. 4 * list_weight arms + 1 < t) (sym c.deref-then-takes_all.ensures.value) less.0,
      taken_pass c.args.context.pass c.args.s.now.rate (sym c.takes_all.ensures ∙ c.if-takes_all.true),
    )

pub stmt-arms_of-requires : goal.stmt-arms_of-requires
stmt-arms_of-requires t c =
    let less = choice_less t c.args.s.now.line c.args.s.now.rate c.args.s.now c.in-Choose.els.items
    c.in-Choose.arms.items c.decreases
    (search (rules, the_lemmas, typed_block_is [], typed_arms_is [], c.in-Choose.is)) in
    (subst (λ arms. 4 * list_weight arms + 1 < t) (sym c.deref-else-takes_all.ensures.value) less.0, tt)

pub stmt-block-requires : goal.stmt-block-requires
stmt-block-requires t c =
    let less = choice_less t c.args.s.now.line c.args.s.now.rate c.args.s.now c.in-Choose.els.items
    c.in-Choose.arms.items c.decreases
    (search (rules, the_lemmas, typed_block_is [], typed_arms_is [], c.in-Choose.is)) in
    (subst (λ els. 4 * all_weight els + 3 < t) (sym c.deref-then-takes_all-2.ensures.value) less.1, tt)

pub stmt-block-requires-else-takes_all : goal.stmt-block-requires-else-takes_all
stmt-block-requires-else-takes_all t c =
    let less = choice_less t c.args.s.now.line c.args.s.now.rate c.args.s.now c.in-Choose.els.items
    c.in-Choose.arms.items c.decreases
    (search (rules, the_lemmas, typed_block_is [], typed_arms_is [], c.in-Choose.is)) in
    (subst (λ els. 4 * all_weight els + 3 < t) (sym c.deref-else-takes_all-2.ensures.value) less.1, tt)

pub arms_of-arm-requires : goal.arms_of-arm-requires
arms_of-arm-requires t c =
    let x = c.a-item.result in
    let start : 4 * list_weight c.args.arms.now + 1 ≡ t = c.decreases in
    let part : body_weight x < list_weight c.args.arms.now =
    body_in_list c.args.arms.now c.loop-a.a-index x (omega (arith, c.loop-a-test.true)) c.a-item.is in
    let less : 4 * body_weight x + 4 < t = omega (arith, start, part) in (less, tt)

pub each_arm-one_arm-requires : goal.each_arm-one_arm-requires
each_arm-one_arm-requires t c =
    let x = c.a-item.result in
    let start : 4 * list_weight c.args.arms.now + 1 ≡ t = c.decreases in
    let part : body_weight x < list_weight c.args.arms.now =
    body_in_list c.args.arms.now c.loop-a.a-index x (omega (arith, c.loop-a-test.true)) c.a-item.is in
    let less : 4 * body_weight x + 4 < t = omega (arith, start, part) in (less, c.requires)

pub arm-block-requires : goal.arm-block-requires
arm-block-requires t c =
    let start : 4 * body_weight c.args.arm.now + 4 ≡ t = c.decreases in
    let same : all_weight c.deref.result.now ≡ body_weight c.args.arm.now = ap all_weight c.deref.ensures.value in
    let less : 4 * all_weight c.deref.result.now + 3 < t = omega (arith, start, same) in (less, tt)

pub one_arm-block-requires : goal.one_arm-block-requires
one_arm-block-requires t c =
    let start : 4 * body_weight c.args.arm.now + 4 ≡ t = c.decreases in
    let same : all_weight c.deref.result.now ≡ body_weight c.args.arm.now = ap all_weight c.deref.ensures.value in
    let less : 4 * all_weight c.deref.result.now + 3 < t = omega (arith, start, same) in (less, tt)
