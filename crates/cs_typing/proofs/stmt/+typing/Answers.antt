use Rattle.std.proofs.Common.{◌≡◌, ◌∙◌, ◌+◌, ◌<◌, ◌++◌, List, None, Some, arith, drop, length, map, refl, rules, sym}
use Rattle.std.proofs.Common.{ap, subst, ℕ}
use Rattle.std.specs.Option.{option_or}
use Rattle.std.proofs.lemmas.{List.append_assoc, List.drop_all, Option.slice_get_within}
use Rattle.cs_grammar.specs.{declared.tree.OrcStmt.OrcStmt, declared.tree.StmtWhat.TheViews.the_lemmas}
use Rattle.cs_grammar.proofs.Rows.{block_is, arms_is}
use Rattle.cs_udo.specs.Library.{definitions_of}
use Rattle.cs_typed.specs.declared.tree.TypedWhat.TheViews.{the_lemmas as typed_lemmas}
use Rattle.cs_typed.specs.declared.tree.TypedWhat.TheBlock.{hidden-the_row-TypedStmt-1, hidden-the_row-TypedArm-0}
use Rattle.cs_typed.proofs.Trees.{typed_block_is, typed_arms_is}
use Rattle.cs_typing.specs.{inner.Held.known_of, inner.Listed.AddsOver}
use Rattle.cs_typing.specs.{inner.Listed.arm_fault_in, inner.Answers.Judged}
use Rattle.cs_typing.specs.{Calls.call_by, Calls.call_shared, Expressions.expression_by}
use Rattle.cs_typing.specs.inner.Listed.{GivesChoice, blocks_in, routines_at, AreTyped, routine_here, routines_of, Adds}
use Rattle.cs_typing.specs.inner.Listed.{GivesBlock}
use Rattle.cs_typing.specs.inner.Routines.{arms_fault_in, block_fault_in, known_after_arms, known_after_block}
use Rattle.cs_typing.specs.inner.Routines.{typed_arms_in, typed_block_in, known_in, fault_in, known_after, typed_in}
use Rattle.cs_typing.specs.inner.Routines.{all_given_in, call_fault_in, call_in, locals_after_call, no_locals}
use Rattle.cs_typing.specs.inner.Routines.{past_call, routine_called, shared_after_call, variable_in}
use Rattle.cs_typing.proofs.Answers.{failed, fault_on, on_ok, same_fault}
use Rattle.cs_udo.proofs.Places.{dropped}
use Rattle.cs_typing.proofs.{Joined.with_arms, Joined.arms_with, Joined.then_nothing, Walked.ahead_alone}
use Rattle.cs_typing.proofs.{Walked.longer_same, Walked.one_added, Weights.weight_of_bodies, RoutineSteady.Apart}
use Rattle.cs_typing.proofs.{TypedOnce.slots_many, Listed.one_more, Called.call_adds, Called.call_judged}
use Rattle.cs_typing.proofs.Called.{inputs_break, routine_breaks}
use Rattle.cs_typing.proofs.Walked.{ahead_still, rest_fault_in, rest_known_in, rest_typed_in, rest_arms_fault_in}
use Rattle.cs_typing.proofs.Walked.{first_arm_fault_in, rest_arms_known_in, rest_arms_typed_in, longer_still}
use Rattle.cs_typing.proofs.Weights.{stmt_lighter, arm_lighter, lighter, weight_of, arms_weigh, weight}
use Rattle.cs_typing.specs.inner.Slots.{slots_fault, given_set, taken_set}
use Rattle.cs_typing.proofs.TypedNow.{well_at, body_breaks, slots_breaks, no_fault, shared_then, then_typed}
use Rattle.cs_typing.proofs.TypedOnce.{again_fault, again_listed, again_shared, found_it, placed_inside, same_it}
use Rattle.cs_typing.specs.{Settings.at, Statements.set_fault_by}
use Rattle.cs_typing.specs.inner.Routines.{given_in, knows_in}
use Rattle.cs_words.specs.Names.{name_rate}
use Rattle.cs_typing.proofs.RoutinePlaces.{routine_found, routine_unfound, unfound_fault}
use Rattle.cs_grammar.specs.Tree as tree
use Rattle.cs_typed.specs.TypedTree as typed
use Rattle.cs_typing.proofs.stmt.+typing.Goals as goal

pub block-stmt-requires : goal.block-stmt-requires
block-stmt-requires t c =
    let light = stmt_lighter c.args.stmts.now c.loop-s.s-index c.s-item.result (omega arith) c.s-item.is in (
      omega (arith, c.decreases, light),
      c.loop-s.invariant.3.sound,
    )

pub block-loop-s-preserved : goal.block-loop-s-preserved
block-loop-s-preserved t c =
    let s = c.args.site.now in
    let rs = routines_at s in
    let was = c.loop-s.invariant in
    let k = known_of c.loop-s.so_far.names in
    let m = known_of c.stmt.new.so_far.names in
    let whole = drop c.loop-s.s-index c.args.stmts.now in
    let rest = drop (c.loop-s.s-index + 1) c.args.stmts.now in
    let x = c.s-item.result in
    let split = dropped c.args.stmts.now c.loop-s.s-index x (omega arith) c.s-item.is in
    let made = c.in_ok-stmt.ensures in
    let old = blocks_in c.loop-s.so_far.routines in
    let more_now = made.ahead.longer.0 in (
      rest_fault_in s.setting rs k m whole rest x split made.fault made.known ∙ was.0,
      λ more.
          rest_typed_in rs (blocks_in c.stmt.new.so_far.routines ++ more) k m whole rest x c.loop-s.done.items
          c.stmt.new.done.items split (made.made more) made.known
          ∙ ap (λ bs. typed.then_block (typed.block bs c.loop-s.done.items) (typed_block_in rs k (tree.block whole)))
          (ap (λ bs. bs ++ more) made.ahead.longer.1 ∙ append_assoc old more_now more) ∙ was.1 (more_now ++ more),
      rest_known_in rs k m whole rest x split made.known ∙ was.2,
      ahead_still s c.args.so_far.now c.loop-s.so_far c.stmt.new.so_far was.3 made.ahead,
    )

pub block-returns-in_err-stmt-clause-gives : goal.block-returns-in_err-stmt-clause-gives
block-returns-in_err-stmt-clause-gives t c =
    let s = c.args.site.now in
    let rs = routines_at s in
    let start = known_of c.args.so_far.now.names in
    let k = known_of c.loop-s.so_far.names in
    let list = c.args.stmts.now in
    let x = c.s-item.result in
    let after = known_after rs k (tree.statement x) in
    let rest = tree.block (drop (c.loop-s.s-index + 1) list) in
    failed (λ r. GivesBlock c.stmt.new.so_far.routines r (block_fault_in s.setting rs start (tree.block list))
    (typed_block_in rs start (tree.block list))) c.from_residual.result _ c.from_residual.ensures.1
    (fault_on _ (fault_in s.setting rs k (tree.statement x)) _ c.in_err-stmt.ensures.fault
    (λ f h. sym c.loop-s.invariant.0 ∙ ap (λ xs. block_fault_in s.setting rs k (tree.block xs))
    (dropped list c.loop-s.s-index x (omega arith) c.s-item.is)
    ∙ ap (λ o. option_or o (block_fault_in s.setting rs after rest)) h))

pub block-returns : goal.block-returns
block-returns t c =
    let s = c.args.site.now in
    let rs = routines_at s in
    let was = c.loop-s.invariant in
    let k = known_of c.loop-s.so_far.names in
    let none = drop_all c.loop-s.s-index c.args.stmts.now (omega arith) in
    record {
      gives = (
        sym was.0 ∙ ap (λ xs. block_fault_in s.setting rs k (tree.block xs)) none,
        λ more.
            let done = typed.block (blocks_in c.loop-s.so_far.routines ++ more) c.loop-s.done.items in
            sym (then_nothing done) ∙ sym (ap (λ xs. typed.then_block done (typed_block_in rs k (tree.block xs))) none)
            ∙ was.1 more,
      );
      known = sym (ap (λ xs. known_after_block rs k (tree.block xs)) none) ∙ was.2;
      ahead = was.3;
    }

-- ---- a called definition

-- the definition is typed
pub typed_routine-returns-then-is_some : goal.typed_routine-returns-then-is_some
typed_routine-returns-then-is_some t c =
    let s = c.args.site.now in
    let ds = definitions_of s.library.now in
    let d = tree.definition c.args.definition.now in
    let names = c.args.so_far.now.names in
    let g = names.shared in
    let table = c.args.so_far.now.routines in
    let place = c.args.place in
    let one = found_it c.of.result table place c.of.ensures.found (sym c.is_some.ensures ∙ c.if-is_some.true) in
    record {
      fault = ap (λ q. (routine_here s place d).fault q g) (placed_inside s place c.requires.front)
          ∙ again_fault s.setting.channels ds place d c.requires.here g table c.requires.sound one.0 one.1;
      listed = again_listed s.setting.channels ds place d c.requires.here g table c.requires.sound one.0 one.1;
      known = sym (ap (λ h. known_in h (known_of names).locals)
          (again_shared s.setting.channels ds place d c.requires.here g table c.requires.sound one.0 one.1));
      ahead = record { sound = c.requires.sound; longer = longer_same table };
    }

-- its body is typed
pub typed_routine-block-requires : goal.typed_routine-block-requires
typed_routine-block-requires t c =
    let s = c.args.site.now in
    let ds = definitions_of s.library.now in
    let d = tree.definition c.args.definition.now in
    let light = lighter ds c.args.place s.visible d c.requires.front c.requires.here in
    let shared = ap (λ k. k.shared) c.exchange.ensures.own in
    let lent = ap (λ xs. weight_of (tree.block xs)) c.deref.ensures.value in (
      omega (arith, c.decreases, light, lent),
      subst (λ h. AreTyped s.setting.channels ds h c.args.so_far.now.routines) (sym shared) c.requires.sound,
    )

pub typed_routine-add-requires : goal.typed_routine-add-requires
typed_routine-add-requires t c =
    let ds = definitions_of c.args.site.now.library.now in
    let inside_ds = slice_get_within ds c.args.place (tree.definition c.args.definition.now) c.requires.here in
    omega (arith, c.in_ok-body.ensures.ahead.sound.marks, inside_ds)

pub typed_routine-returns-in_err-body-clause-fault : goal.typed_routine-returns-in_err-body-clause-fault
typed_routine-returns-in_err-body-clause-fault t c =
    let s = c.args.site.now in
    let ds = definitions_of s.library.now in
    let d = tree.definition c.args.definition.now in
    let g = c.args.so_far.now.names.shared in
    let place = c.args.place in
    let k = known_of c.exchange.new.self in
    let well = well_at ds place d c.requires.sound.fit c.requires.here in
    let start = c.exchange.ensures.own ∙ ap (known_in g) c.requires.inputs in
    failed (λ r. Judged r ((routine_here s place d).fault s.setting g)) c.from_residual.result _
    c.from_residual.ensures.1
    (fault_on _ (block_fault_in s.setting (routines_of ds place) k (tree.block c.deref.result.now)) _
    c.in_err-body.ensures.gives
    (body_breaks s.setting ds place d well g k k start _ (ap tree.block c.deref.ensures.value)))

-- its slots are assigned their values
pub typed_routine-returns-in_err-slots-clause-fault : goal.typed_routine-returns-in_err-slots-clause-fault
typed_routine-returns-in_err-slots-clause-fault t c =
    let s = c.args.site.now in
    let ds = definitions_of s.library.now in
    let d = tree.definition c.args.definition.now in
    let g = c.args.so_far.now.names.shared in
    let place = c.args.place in
    let k = known_of c.exchange.new.self in
    let kb = known_of c.block.new.so_far.names in
    let well = well_at ds place d c.requires.sound.fit c.requires.here in
    let start = c.exchange.ensures.own ∙ ap (known_in g) c.requires.inputs in
    let lent = ap tree.block c.deref.ensures.value in
    let body = c.in_ok-body.ensures in
    failed (λ r. Judged r ((routine_here s place d).fault s.setting g)) c.from_residual-in_err-slots.result _
    c.from_residual-in_err-slots.ensures.1
    (fault_on _ (slots_fault s.setting kb d.line d.outs d.result) _ c.in_err-slots.ensures.fault
    (slots_breaks s.setting ds place d well g k kb start _ lent body.gives.0 body.known))

pub typed_routine-returns : goal.typed_routine-returns
typed_routine-returns t c =
    let s = c.args.site.now in
    let ds = definitions_of s.library.now in
    let d = tree.definition c.args.definition.now in
    let g = c.args.so_far.now.names.shared in
    let place = c.args.place in
    let k = known_of c.exchange.new.self in
    let kb = known_of c.block.new.so_far.names in
    let well = well_at ds place d c.requires.sound.fit c.requires.here in
    let start = c.exchange.ensures.own ∙ ap (known_in g) c.requires.inputs in
    let lent = ap tree.block c.deref.ensures.value in
    let body = c.in_ok-body.ensures in
    let slots = c.in_ok-slots.ensures in
    let free : Apart g = record { sound = c.requires.sound.apart } in
    let table = c.block.new.so_far.routines in
    let counts = c.counts.ensures ∙ ap (λ l. l.counts) c.exchange-2.ensures.other
    ∙ ap (λ n. n.locals.counts) slots.known in
    let marks = body.ahead.sound.marks in
    let inside_ds = slice_get_within ds place d c.requires.here in
    let within : place < length table.by_definition.items = omega (arith, marks, inside_ds) in
    let known = ap (λ n. n.shared) slots.known in
    let shared = known ∙ shared_then s.setting ds place d well g k kb start _ lent body.gives.0 body.known in
    let stays = ap (λ n. n.shared) c.exchange-2.ensures.own ∙ known in
    let now = then_typed s.setting ds place d well g k kb start _ lent body.gives.0 body.known slots.fault free table
    c.add.new.self c.in_ok-body.body.items c.give_slots.new.done c.counts.result c.in_ok-slots.slots
    body.gives.1 slots.made counts slots.numbers within c.in_ok-add.ensures.list c.in_ok-add.ensures.marks in
    record {
      fault = no_fault s.setting ds place d well g k kb start _ lent body.gives.0 body.known slots.fault;
      listed = now.listed;
      known = c.exchange-2.ensures.own ∙ λ i. known_in (shared i) (c.exchange.ensures.other i);
      ahead = record {
        sound = subst (λ h. AreTyped s.setting.channels ds h c.add.new.self) (sym stays)
            (now.each s.setting.channels (placed_inside s place c.requires.front) c.requires.here body.ahead.sound);
        longer = longer_still c.args.so_far.now.routines table c.add.new.self body.ahead.longer now.longer;
      };
    }

-- ---- an `if`

pub choice-arm-requires : goal.choice-arm-requires
choice-arm-requires t c =
    let light = arm_lighter c.args.list.now c.loop-a.a-index c.a-item.result (omega arith) c.a-item.is in (
      omega (arith, c.decreases, light),
      c.loop-a.invariant.3.sound,
    )

pub choice-loop-a-preserved : goal.choice-loop-a-preserved
choice-loop-a-preserved t c =
    let s = c.args.site.now in
    let rs = routines_at s in
    let els = tree.block c.args.els.now in
    let was = c.loop-a.invariant in
    let k = known_of c.loop-a.so_far.names in
    let m = known_of c.arm.new.so_far.names in
    let whole = drop c.loop-a.a-index c.args.list.now in
    let rest = drop (c.loop-a.a-index + 1) c.args.list.now in
    let x = c.a-item.result in
    let split = dropped c.args.list.now c.loop-a.a-index x (omega arith) c.a-item.is in
    let made = c.in_ok-arm.ensures.gives in
    let ahead = c.in_ok-arm.ensures.ahead in
    let old = c.loop-a.typed.items in (
      rest_arms_fault_in s.setting rs k m c.args.line els whole rest x split made.0 made.1 made.4 ∙ was.0,
      λ more.
          rest_arms_typed_in rs (blocks_in c.arm.new.so_far.routines ++ more) k m els whole rest x old
          c.push.new.self.items c.in_ok-arm.field-0 split c.in_ok-push.ensures.items made.2 (made.3 more) made.4
          ∙ ap (λ bs. with_arms bs old (typed_arms_in rs k (tree.arms els whole))) (ap (λ bs. bs ++ more) ahead.longer.1
          ∙ append_assoc (blocks_in c.loop-a.so_far.routines) ahead.longer.0 more) ∙ was.1 (ahead.longer.0 ++ more),
      rest_arms_known_in rs k m els whole rest x split made.4 ∙ was.2,
      ahead_still s c.args.so_far.now c.loop-a.so_far c.arm.new.so_far was.3 ahead,
    )

pub choice-block-requires : goal.choice-block-requires
choice-block-requires t c = (omega (arith, c.decreases), c.loop-a.invariant.3.sound)

pub choice-returns-in_err-arm-clause-gives : goal.choice-returns-in_err-arm-clause-gives
choice-returns-in_err-arm-clause-gives t c =
    let s = c.args.site.now in
    let rs = routines_at s in
    let els = tree.block c.args.els.now in
    let k = known_of c.loop-a.so_far.names in
    let whole = drop c.loop-a.a-index c.args.list.now in
    let x = c.a-item.result in
    let split = dropped c.args.list.now c.loop-a.a-index x (omega arith) c.a-item.is in
    failed (λ r. GivesChoice c.arm.new.so_far.routines r s.setting rs (known_of c.args.so_far.now.names) c.args.line
    (tree.arms els c.args.list.now)) c.from_residual.result _ c.from_residual.ensures.1
    (fault_on _ (arm_fault_in s.setting rs k c.args.line x) _ c.in_err-arm.ensures.gives
    (λ f h. sym c.loop-a.invariant.0 ∙ first_arm_fault_in s.setting rs k c.args.line els whole _ x f split h))

pub choice-returns-in_err-typed_els-clause-gives : goal.choice-returns-in_err-typed_els-clause-gives
choice-returns-in_err-typed_els-clause-gives t c =
    let s = c.args.site.now in
    let rs = routines_at s in
    let els = tree.block c.args.els.now in
    let k = known_of c.loop-a.so_far.names in
    let none = drop_all c.loop-a.a-index c.args.list.now (omega arith) in
    failed (λ r. GivesChoice c.block.new.so_far.routines r s.setting rs (known_of c.args.so_far.now.names) c.args.line
    (tree.arms els c.args.list.now))
    c.from_residual-in_err-typed_els.result _ c.from_residual-in_err-typed_els.ensures.1
    (same_fault _ (block_fault_in s.setting rs k els) _ c.in_err-typed_els.ensures.gives
    (sym (ap (λ xs. arms_fault_in s.setting rs k c.args.line (tree.arms els xs)) none) ∙ c.loop-a.invariant.0))

pub choice-returns : goal.choice-returns
choice-returns t c =
    let s = c.args.site.now in
    let rs = routines_at s in
    let k = known_of c.loop-a.so_far.names in
    let els = tree.block c.args.els.now in
    let was = c.loop-a.invariant in
    let last = c.in_ok-typed_els.ensures in
    let whole = drop c.loop-a.a-index c.args.list.now in
    let none = drop_all c.loop-a.a-index c.args.list.now (omega arith) in
    let typed_list = typed_arms_in rs (known_of c.args.so_far.now.names) (tree.arms els c.args.list.now) in
    record {
      gives = (
        sym was.0 ∙ ap (λ xs. arms_fault_in s.setting rs k c.args.line (tree.arms els xs)) none ∙ last.gives.0,
        λ more.
            let bs = blocks_in c.block.new.so_far.routines ++ more in
            let made = c.loop-a.typed in
            let made_els = c.in_ok-typed_els.typed_els in
            let form : typed.of_arms bs (typed.of_block bs (hidden-the_row-TypedStmt-1 made_els))
            (hidden-the_row-TypedArm-0 made) ≡ typed.arms bs (typed.block bs made_els.items) made.items =
            search (rules, typed_lemmas, typed_block_is bs, typed_arms_is bs) in
            let bodies : typed.arms bs (typed_block_in rs k els) made.items ≡ typed_list =
            sym (arms_with bs made.items (typed_block_in rs k els))
            ∙ sym (ap (λ xs. with_arms bs made.items (typed_arms_in rs k (tree.arms els xs))) none)
            ∙ ap (λ xs. with_arms xs made.items (typed_arms_in rs k (tree.arms els whole)))
            (ap (λ xs. xs ++ more) last.ahead.longer.1
            ∙ append_assoc (blocks_in c.loop-a.so_far.routines) last.ahead.longer.0 more)
            ∙ was.1 (last.ahead.longer.0 ++ more) in
            ap (λ x. typed.alone (typed.choose c.args.line c.choice_rate.result x))
            (form ∙ ap (λ b. typed.arms bs b made.items) (last.gives.1 more) ∙ bodies)
            ∙ ap (λ r. typed.alone (typed.choose c.args.line r typed_list)) (c.choice_rate.ensures els),
      );
      known = last.known ∙ sym (ap (λ xs. known_after_arms rs k (tree.arms els xs)) none) ∙ was.2;
      ahead = ahead_still s c.args.so_far.now c.loop-a.so_far c.block.new.so_far was.3 last.ahead;
    }

pub stmt-choice-requires : goal.stmt-choice-requires
stmt-choice-requires t c =
    let list = c.in-Choose.list.items in
    let els = tree.block c.in-Choose.els.items in
    let is : tree.statement c.args.s.now ≡ tree.choose c.args.s.now.line (tree.arms els list) =
    search (rules, the_lemmas, block_is, arms_is, c.in-Choose.is) in
    let heavy : weight (tree.statement c.args.s.now) ≡ weight (tree.choose c.args.s.now.line (tree.arms els list)) =
    ap weight is in
    let arms_same = ap weight_of_bodies c.deref-in-Choose.ensures.value in
    let els_same = ap (λ (xs : List OrcStmt). weight_of (tree.block xs)) c.deref-in-Choose-2.ensures.value in (
      omega (arith, c.decreases, heavy, arms_same, els_same, arms_weigh els list),
      c.requires.sound,
    )

pub stmt-returns-in_err-made-in-Choose-clause-fault : goal.stmt-returns-in_err-made-in-Choose-clause-fault
stmt-returns-in_err-made-in-Choose-clause-fault t c =
    let s = c.args.site.now in
    let fault = fault_in s.setting (routines_at s) (known_of c.args.so_far.now.names) in
    let line = c.args.s.now.line in
    let is : tree.statement c.args.s.now
    ≡ tree.choose line (tree.arms (tree.block c.in-Choose.els.items) c.in-Choose.list.items) =
    search (rules, the_lemmas, block_is, arms_is, c.in-Choose.is) in
    failed (λ r. Judged r (fault (tree.statement c.args.s.now)))
    c.from_residual-in_err-made-in-Choose.result _ c.from_residual-in_err-made-in-Choose.ensures.1
    (same_fault _ (fault (tree.choose line (tree.arms (tree.block c.deref-in-Choose-2.result.now)
    c.deref-in-Choose.result.now))) _ c.in_err-made-in-Choose.ensures.gives
    ((λ i. fault (tree.choose line (tree.arms (tree.block (c.deref-in-Choose-2.ensures.value i))
    (c.deref-in-Choose.ensures.value i)))) ∙ sym (ap fault is)))

pub stmt-returns-in_ok-push-in-Choose : goal.stmt-returns-in_ok-push-in-Choose
stmt-returns-in_ok-push-in-Choose t c =
    let s = c.args.site.now in
    let rs = routines_at s in
    let k = known_of c.args.so_far.now.names in
    let line = c.args.s.now.line in
    let old = c.args.done.now.items in
    let choice = c.in_ok-made-in-Choose.ensures in
    let is : tree.statement c.args.s.now
    ≡ tree.choose line (tree.arms (tree.block c.in-Choose.els.items) c.in-Choose.list.items) =
    search (rules, the_lemmas, block_is, arms_is, c.in-Choose.is) in
    let same = (λ i. tree.choose line (tree.arms (tree.block (c.deref-in-Choose-2.ensures.value i))
    (c.deref-in-Choose.ensures.value i))) ∙ sym is in
    record {
      fault = sym (ap (fault_in s.setting rs k) same) ∙ choice.gives.0;
      made = λ more.
          let bs = blocks_in c.choice.new.so_far.routines ++ more in
          ap (typed.block bs) c.in_ok-push-in-Choose.ensures.items ∙ one_more bs old c.in_ok-made-in-Choose.made
          ∙ ap (typed.then_block (typed.block bs old)) (choice.gives.1 more)
          ∙ ap (λ x. typed.then_block (typed.block bs old) (typed_in rs k x)) same;
      known = choice.known ∙ ap (known_after rs k) same;
      ahead = choice.ahead;
    }

-- ---- an assignment

pub stmt-returns-in-Set : goal.stmt-returns-in-Set
stmt-returns-in-Set t c =
    let s = c.args.site.now in
    let rs = routines_at s in
    let k = known_of c.args.so_far.now.names in
    let line = c.args.s.now.line in
    let e = tree.expression c.in-Set.e in
    let table = c.args.so_far.now.routines in
    let old = c.args.done.now.items in
    let name = c.as_slice.ensures in
    let is : tree.statement c.args.s.now ≡ tree.set line c.in-Set.name e = search (rules, the_lemmas, c.in-Set.is) in
    let form : List ℕ → typed.Statement = λ x.
    typed.set line (name_rate x) (variable_in k x) (expression_by (variable_in k) e) in
    record {
      fault = subst (λ f. Judged c.set_name.result f)
          ((λ i. at line (set_fault_by s.setting (knows_in k) (name i) e)) ∙ sym (ap (fault_in s.setting rs k) is))
          c.set_name.ensures.fault;
      made = on_ok c.set_name.result c.set_name.ensures.made
          (λ made more.
          let before = typed.block (blocks_in table ++ more) old in
          made (blocks_in table ++ more) ∙ (λ i. typed.then_block before (typed.alone (form (name i))))
          ∙ sym (ap (λ x. typed.then_block before (typed_in rs k x)) is));
      known = on_ok c.set_name.result c.set_name.ensures.known
          (λ known. known ∙ (λ i. known_in k.shared (given_in k.locals (name i))) ∙ sym (ap (known_after rs k) is));
      ahead = on_ok c.set_name.result c.set_name.ensures.known
          (λ known. record {
            sound = subst (λ h. AreTyped s.setting.channels (definitions_of s.library.now) h table)
                (sym (ap (λ m. m.shared) known)) c.requires.sound;
            longer = longer_same table;
          });
    }

-- ---- a call of an opcode of the catalogue

pub stmt-returns-in_err-made-in-None-clause-fault : goal.stmt-returns-in_err-made-in-None-clause-fault
stmt-returns-in_err-made-in-None-clause-fault t c =
    let s = c.args.site.now in
    let rs = routines_at s in
    let k = known_of c.args.so_far.now.names in
    let line = c.args.s.now.line in
    let xs = c.in-Call.results in
    let q = c.in-Call.callee in
    let args = c.in-Call.args.items in
    let is : tree.statement c.args.s.now ≡ tree.call line xs q (map tree.argument args) =
    search (rules, the_lemmas, c.in-Call.is) in
    let none : routine_called rs q ≡ None =
    routine_unfound (definitions_of s.library.now) s.visible q c.in-None.ensures.found in
    failed (λ r. Judged r (fault_in s.setting rs k (tree.statement c.args.s.now)))
    c.from_residual.result _ c.from_residual.ensures.1 (same_fault _ _ _ c.in_err-made-in-None.ensures.gives
    (sym (unfound_fault s.setting rs k (tree.statement c.args.s.now) line xs _ q args _ is none
    c.as_slice-results.ensures c.deref.ensures.value)))

pub stmt-returns-in_ok-push-in-None : goal.stmt-returns-in_ok-push-in-None
stmt-returns-in_ok-push-in-None t c =
    let s = c.args.site.now in
    let rs = routines_at s in
    let k = known_of c.args.so_far.now.names in
    let line = c.args.s.now.line in
    let xs = c.in-Call.results in
    let q = c.in-Call.callee in
    let args = c.in-Call.args.items in
    let table = c.args.so_far.now.routines in
    let old = c.args.done.now.items in
    let made = c.in_ok-made-in-None.ensures in
    let is : tree.statement c.args.s.now ≡ tree.call line xs q (map tree.argument args) =
    search (rules, the_lemmas, c.in-Call.is) in
    let none : routine_called rs q ≡ None =
    routine_unfound (definitions_of s.library.now) s.visible q c.in-None.ensures.found in
    let fault : fault_in s.setting rs k (tree.statement c.args.s.now) ≡ None =
    unfound_fault s.setting rs k (tree.statement c.args.s.now) line xs _ q args _ is none c.as_slice-results.ensures
    c.deref.ensures.value ∙ made.gives.0 in
    let known = made.known ∙ (λ i. known_in
    (call_shared k.shared q (c.as_slice-results.ensures i) (map tree.argument (c.deref.ensures.value i)))
    (all_given_in k.locals (c.as_slice-results.ensures i)))
    ∙ sym (ap (λ r. known_in (shared_after_call k.shared q xs (map tree.argument args) r)
    (locals_after_call k.locals xs r)) none) ∙ sym (ap (known_after rs k) is) in
    record {
      fault = fault;
      made = λ more.
          let before = typed.block (blocks_in table ++ more) old in
          one_added table old c.push.new.self.items c.in_ok-made-in-None.made _
          c.in_ok-push-in-None.ensures.items made.gives.1 more ∙ ap (typed.then_block before)
          ((λ i. typed.alone (call_by line k.shared (variable_in k) q (c.as_slice-results.ensures i)
          (map tree.argument (c.deref.ensures.value i))))
          ∙ sym (ap (call_in k line xs q (map tree.argument args)) none) ∙ sym (ap (typed_in rs k) is));
      known = known;
      ahead = ahead_alone s c.args.so_far.now (record { names = c.call.new.names; routines = table })
          (tree.statement c.args.s.now) c.requires.sound refl fault known;
    }

-- ---- a call of a user-defined opcode

pub stmt-returns-in-Some : goal.stmt-returns-in-Some
stmt-returns-in-Some t c =
    let s = c.args.site.now in
    let rs = routines_at s in
    let k = known_of c.args.so_far.now.names in
    let line = c.args.s.now.line in
    let xs = c.in-Call.results in
    let q = c.in-Call.callee in
    let args = c.in-Call.args.items in
    let r = routine_here s c.in-Some.found.place (tree.definition c.in-Some.found.definition.now) in
    let is : tree.statement c.args.s.now ≡ tree.call line xs q (map tree.argument args) =
    search (rules, the_lemmas, c.in-Call.is) in
    let found : routine_called rs q ≡ Some r =
    routine_found (definitions_of s.library.now) s.visible q c.in-Some.found c.in-Some.ensures.found in
    let names = c.as_slice-results.ensures in
    let given = c.deref-in-Some.ensures.value in
    record {
      fault = subst (λ f. Judged c.invoke.result f)
          ((λ i. call_fault_in s.setting k line (names i) q (map tree.argument (given i)) (Some r))
          ∙ sym (ap (call_fault_in s.setting k line xs q (map tree.argument args)) found)
          ∙ sym (ap (fault_in s.setting rs k) is)) (c.invoke.ensures.fault q);
      made = on_ok c.invoke.result c.invoke.ensures.made
          (λ made. subst
          (λ b. AddsOver c.invoke.new.so_far.routines c.args.done.now.items c.invoke.new.done.items b)
          ((λ i. call_in k line (names i) q (map tree.argument (given i)) (Some r))
          ∙ sym (ap (call_in k line xs q (map tree.argument args)) found) ∙ sym (ap (typed_in rs k) is)) (made q));
      known = on_ok c.invoke.result c.invoke.ensures.known
          (λ known. known ∙ ap (λ ys. known_in (r.shared k.shared) (locals_after_call k.locals ys (Some r))) names
          ∙ sym (ap (λ o. known_in (shared_after_call k.shared q xs (map tree.argument args) o)
          (locals_after_call k.locals xs o)) found) ∙ sym (ap (known_after rs k) is));
      ahead = c.invoke.ensures.ahead;
    }

-- ---- the assignments around a routine

pub invoke-returns-in_err-give_inputs-clause-fault : goal.invoke-returns-in_err-give_inputs-clause-fault
invoke-returns-in_err-give_inputs-clause-fault t c q =
    let s = c.args.site.now in
    let ds = definitions_of s.library.now in
    let it = c.args.it.now in
    let d = tree.definition it.definition.now in
    let well = well_at ds c.args.place d c.requires.sound.fit c.requires.here in
    let k = known_of c.args.so_far.now.names in
    let args = map tree.argument it.args.now in
    failed (λ z. Judged z (call_fault_in s.setting k it.line it.results.now q args
    (Some (routine_here s c.args.place d))))
    c.from_residual-in_err-give_inputs.result _ c.from_residual-in_err-give_inputs.ensures.1
    (fault_on _ _ _ c.in_err-give_inputs.ensures.fault
    (inputs_break ds c.args.place d well s.setting k it.line it.results.now args q))

pub invoke-returns-in_err-typed_routine-clause-fault : goal.invoke-returns-in_err-typed_routine-clause-fault
invoke-returns-in_err-typed_routine-clause-fault t c q =
    let s = c.args.site.now in
    let ds = definitions_of s.library.now in
    let it = c.args.it.now in
    let d = tree.definition it.definition.now in
    let well = well_at ds c.args.place d c.requires.sound.fit c.requires.here in
    let k = known_of c.args.so_far.now.names in
    let args = map tree.argument it.args.now in
    failed (λ z. Judged z (call_fault_in s.setting k it.line it.results.now q args
    (Some (routine_here s c.args.place d))))
    c.from_residual-in_err-typed_routine.result _ c.from_residual-in_err-typed_routine.ensures.1
    (fault_on _ _ _ c.in_err-typed_routine.ensures.fault
    (λ f. routine_breaks ds c.args.place d well s.setting k it.line it.results.now args q f
    c.in_ok-give_inputs.ensures.fault))

pub invoke-give_routine-requires : goal.invoke-give_routine-requires
invoke-give_routine-requires t c =
    let d = tree.definition c.args.it.now.definition.now in
    let listed = c.in_ok-typed_routine.ensures.listed in
    let same = same_it listed.it c.in-Some.found.now (sym listed.at ∙ c.in-Some.ensures.found) in
    slots_many (routine_here c.args.site.now c.args.place d) d.outs c.in-Some.found.now.slots.items refl
    (sym (ap (λ it. it.slots.items) same) ∙ listed.slots)

pub invoke-returns-in-Some : goal.invoke-returns-in-Some
invoke-returns-in-Some t c =
    let s = c.args.site.now in
    let ds = definitions_of s.library.now in
    let it = c.args.it.now in
    let d = tree.definition it.definition.now in
    let well = well_at ds c.args.place d c.requires.sound.fit c.requires.here in
    let k = known_of c.args.so_far.now.names in
    let args = map tree.argument it.args.now in
    let r = routine_here s c.args.place d in
    let old = c.args.done.now.items in
    let table = c.typed_routine.new.so_far.routines in
    let found = c.in-Some.found.now in
    let typed_now = c.in_ok-typed_routine.ensures in
    let listed = typed_now.listed in
    let same = same_it listed.it found (sym listed.at ∙ c.in-Some.ensures.found) in
    let inputs : Adds old c.give_inputs.new.done.items
    (given_set k (all_given_in no_locals d.names) it.line d.names args) =
    λ bs. c.in_ok-give_inputs.ensures.made bs
    ∙ ap (λ l. typed.then_block (typed.block bs old) (given_set k l it.line d.names args)) c.in_ok-inputs.ensures in
    let n = known_of c.typed_routine.new.so_far.names in
    let after : known_in n.shared (past_call n.locals found.locals)
    ≡ known_in (r.shared k.shared) (past_call k.locals r.last.counts) =
    ap (λ m. known_in m.shared (past_call m.locals found.locals)) typed_now.known
    ∙ ap (λ z. known_in (r.shared k.shared) (past_call k.locals z)) (sym (ap (λ it. it.locals) same) ∙ listed.locals) in
    record {
      fault = λ q. subst (λ f. Judged c.give_routine.result f)
          (call_judged ds c.args.place d well s.setting k it.line it.results.now args q
          c.in_ok-give_inputs.ensures.fault typed_now.fault) c.give_routine.ensures.fault;
      made = on_ok c.give_routine.result c.give_routine.ensures.made
          (λ adds. call_adds ds c.args.place d well s.setting k it.line it.results.now args table old
          c.give_inputs.new.done.items c.give_routine.new.done.items found.routine found.slots.items _ inputs
          (subst (λ it. it.routine < length (blocks_in table)) same listed.within)
          (listed.block ∙ ap (λ it. typed.routine_at (blocks_in table) it.routine) same)
          after (sym (ap (λ it. it.slots.items) same) ∙ listed.slots)
          (λ bs. adds bs ∙ ap (λ z. typed.then_block (typed.block bs c.give_inputs.new.done.items)
          (typed.then_block (typed.moved_block z (typed.routine_at bs found.routine))
          (taken_set (known_in n.shared (past_call n.locals found.locals)) z it.line it.results.now d.outs
          found.slots.items))) c.requires.base));
      known = on_ok c.give_routine.result c.give_routine.ensures.known
          (λ known. known ∙ ap (λ m. known_in m.shared (all_given_in m.locals it.results.now)) after);
      ahead = on_ok c.give_routine.result c.give_routine.ensures.known
          (λ known. record {
            sound = subst (λ h. AreTyped s.setting.channels ds h table) (sym (ap (λ m. m.shared) known))
                typed_now.ahead.sound;
            longer = typed_now.ahead.longer;
          });
    }
