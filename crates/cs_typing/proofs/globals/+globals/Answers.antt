use Rattle.std.proofs.Common.{◌≡◌, ◌∙◌, ◌+◌, ◌++◌, ◌<◌, arith, drop, length, rules, OnOk, Some, refl, sym, ap, subst}
use Rattle.std.proofs.Common.{List}
use Rattle.std.proofs.lemmas.{List.drop_all, Option.slice_get_read, Option.slice_get_within}
use Rattle.cs_grammar.specs.{declared.tree.Arm.out-Arm, declared.tree.OrcStmt.OrcStmt}
use Rattle.cs_grammar.specs.declared.tree.StmtWhat.TheViews.{the_lemmas}
use Rattle.cs_grammar.proofs.Rows.{block_is, arms_is}
use Rattle.cs_typing.specs.{Typing.given_globals, declared.globals.Front.Front}
use Rattle.cs_typing.specs.declared.globals.GivenGlobals.{GivenGlobals}
use Rattle.cs_typing.specs.inner.Globals.{Looks, called_names, givers_in, names_in, names_in_block, names_in_bodies}
use Rattle.cs_typing.proofs.{Answers.on_ok, GlobalsWritten.given_both, Weights.weight_of_bodies}
use Rattle.cs_udo.proofs.Places.{dropped}
use Rattle.cs_typing.proofs.GlobalsFound.{arms_names, looks_again, looks_both, looks_first, looks_given}
use Rattle.cs_typing.proofs.GlobalsFound.{looks_unfound}
use Rattle.cs_typing.proofs.Weights.{stmt_lighter, arm_lighter, arms_weigh, lighter, weight, weight_of}
use Rattle.cs_udo.specs.Library.{definitions_of}
use Rattle.cs_grammar.specs.Tree as tree
use Rattle.cs_typing.proofs.globals.+globals.Goals as goal

-- ---- the called opcode

pub globals_of_callee-globals_of_block-requires : goal.globals_of_callee-globals_of_block-requires
globals_of_callee-globals_of_block-requires t c =
    let ds = definitions_of c.args.front.library.now in
    let inner : Front = record { library = c.args.front.library; visible = c.in-Some.found.place } in
    let body = tree.definition c.in-Some.found.definition.now in
    let light = lighter ds c.in-Some.found.place c.args.front.visible body c.in-Some.ensures.defined.0
    c.in-Some.ensures.defined.1 in
    let same = ap (λ (l : List OrcStmt). weight_of (tree.block l)) c.deref.ensures.value in (
      omega (arith, c.decreases, light, same),
      c.requires,
    )

pub globals_of_callee-index_mut-requires : goal.globals_of_callee-index_mut-requires
globals_of_callee-index_mut-requires t c =
    let ds = definitions_of c.args.front.library.now in
    let low = slice_get_within ds c.in-Some.found.place (tree.definition c.in-Some.found.definition.now)
    c.in-Some.ensures.defined.1 in
    omega (arith, low, c.in_ok-globals_of_block-in-Some.ensures.done.marks, c.globals_of_block.new.given.done.ok)

pub globals_of_callee-returns-in-None : goal.globals_of_callee-returns-in-None
globals_of_callee-returns-in-None t c =
    looks_unfound c.args.front c.args.given.now c.args.callee.now c.requires c.in-None.ensures.found

pub globals_of_callee-returns-in_ok-globals_of_block-in-Some :
    goal.globals_of_callee-returns-in_ok-globals_of_block-in-Some
globals_of_callee-returns-in_ok-globals_of_block-in-Some t c =
    let inner : Front = record { library = c.args.front.library; visible = c.in-Some.found.place } in
    let made = c.globals_of_block.new.given in
    let looks : Looks inner c.args.given.now made
    (names_in_block (givers_in inner) (tree.definition c.in-Some.found.definition.now).body) =
    subst (λ (l : List OrcStmt). Looks inner c.args.given.now made (names_in_block (givers_in inner) (tree.block l)))
    c.deref.ensures.value c.in_ok-globals_of_block-in-Some.ensures in
    looks_first c.args.front inner c.args.given.now made _ c.args.callee.now c.in-Some.found refl refl
    c.in-Some.ensures.found c.in-Some.ensures.defined.1 looks refl refl

pub globals_of_callee-returns-else-not-index : goal.globals_of_callee-returns-else-not-index
globals_of_callee-returns-else-not-index t c =
    let ds = definitions_of c.args.front.library.now in
    let place = c.in-Some.found.place in
    let items = c.args.given.now.done.items in
    let low = slice_get_within ds place (tree.definition c.in-Some.found.definition.now) c.in-Some.ensures.defined.1 in
    let within : place < length items = omega (arith, low, c.requires.marks) in
    let marked = slice_get_read items (length items) place c.index.result.now refl within c.index.ensures
    ∙ ap Some c.if-not-index.false in
    looks_again c.args.front c.args.given.now c.args.callee.now c.in-Some.found c.requires c.in-Some.ensures.found
    c.in-Some.ensures.defined.1 marked

-- ---- statements

pub globals_of_stmt-globals_of_block-requires : goal.globals_of_stmt-globals_of_block-requires
globals_of_stmt-globals_of_block-requires t c =
    let els = tree.block c.in-Choose.els.items in
    let list = c.in-Choose.list.items in
    let seen : tree.statement c.args.s.now ≡ tree.choose c.args.s.now.line (tree.arms els list) =
    search (rules, the_lemmas, block_is, arms_is, c.in-Choose.is) in
    let heavy : weight (tree.statement c.args.s.now) ≡ weight (tree.choose c.args.s.now.line (tree.arms els list)) =
    ap weight seen in
    let lent = c.deref-a-items.result.now in
    let light = arm_lighter lent c.loop-a.a-index c.a-item.result (omega arith) c.a-item.is in
    let arms = ap weight_of_bodies c.deref-a-items.ensures.value in
    let same = ap (λ (l : List OrcStmt). weight_of (tree.block l)) c.deref.ensures.value in (
      omega (arith, c.decreases, heavy, arms_weigh els list, light, arms, same),
      c.loop-a.invariant.1,
    )

pub globals_of_stmt-loop-a-preserved : goal.globals_of_stmt-loop-a-preserved
globals_of_stmt-loop-a-preserved t c =
    let givers = givers_in c.args.front in
    let a = c.a-item.result in
    let k = c.loop-a.given.names in
    let list = c.deref-a-items.result.now in
    let rest = drop (c.loop-a.a-index + 1) list in
    let split = dropped list c.loop-a.a-index a (omega arith) c.a-item.is in
    let made : Looks c.args.front c.loop-a.given c.globals_of_block.new.given
    (names_in_block givers (tree.block (out-Arm a).body.items)) =
    subst (λ (l : List OrcStmt). Looks c.args.front c.loop-a.given c.globals_of_block.new.given
    (names_in_block givers (tree.block l))) c.deref.ensures.value c.in_ok-globals_of_block-in-Choose.ensures in (
      ap (λ u. given_globals u (names_in_bodies givers rest)) made.names
          ∙ sym (given_both k (names_in_block givers (tree.block (out-Arm a).body.items)) (names_in_bodies givers rest))
          ∙ sym (ap (λ xs. given_globals k (names_in_bodies givers xs)) split) ∙ c.loop-a.invariant.0,
      made.done,
    )

pub globals_of_stmt-globals_of_block-requires-in-Choose : goal.globals_of_stmt-globals_of_block-requires-in-Choose
globals_of_stmt-globals_of_block-requires-in-Choose t c =
    let els = tree.block c.in-Choose.els.items in
    let list = c.in-Choose.list.items in
    let seen : tree.statement c.args.s.now ≡ tree.choose c.args.s.now.line (tree.arms els list) =
    search (rules, the_lemmas, block_is, arms_is, c.in-Choose.is) in
    let heavy : weight (tree.statement c.args.s.now) ≡ weight (tree.choose c.args.s.now.line (tree.arms els list)) =
    ap weight seen in
    let same = ap (λ (l : List OrcStmt). weight_of (tree.block l)) c.deref-in-Choose.ensures.value in (
      omega (arith, c.decreases, heavy, same, arms_weigh els list),
      c.loop-a.invariant.1,
    )

pub globals_of_stmt-returns-in_ok-globals_of_callee-in-Call :
    goal.globals_of_stmt-returns-in_ok-globals_of_callee-in-Call
globals_of_stmt-returns-in_ok-globals_of_callee-in-Call t c =
    let f = c.args.front in
    let g = givers_in f in
    let xs = called_names g c.in-Call.callee in
    let mid = c.globals_of_callee.new.given in
    let new : GivenGlobals = record { names = c.give_globals.new.t; done = mid.done } in
    let seen : names_in g (tree.statement c.args.s.now) ≡ xs ++ c.in-Call.results =
    search (rules, the_lemmas, c.in-Call.is) in
    subst (λ ys. OnOk c.give_globals.result (Looks f c.args.given.now new ys)) (sym seen)
    (on_ok c.give_globals.result c.give_globals.ensures
    (λ (e : c.give_globals.new.t ≡ given_globals mid.names c.as_slice-in-Call.result.now). looks_both f c.args.given.now
    mid new xs c.in-Call.results c.in_ok-globals_of_callee-in-Call.ensures
    (looks_given f mid new c.in-Call.results c.in_ok-globals_of_callee-in-Call.ensures.done
    (e ∙ ap (given_globals mid.names) c.as_slice-in-Call.ensures) refl)))

pub globals_of_stmt-returns-after-loop-a : goal.globals_of_stmt-returns-after-loop-a
globals_of_stmt-returns-after-loop-a t c =
    let f = c.args.front in
    let g = givers_in f in
    let els = tree.block c.in-Choose.els.items in
    let list = c.in-Choose.list.items in
    let mid = c.loop-a.given in
    let new = c.globals_of_block-in-Choose.new.given in
    let seen : tree.statement c.args.s.now ≡ tree.choose c.args.s.now.line (tree.arms els list) =
    search (rules, the_lemmas, block_is, arms_is, c.in-Choose.is) in
    let names : names_in_bodies g list ++ names_in_block g els ≡ names_in g (tree.statement c.args.s.now) =
    sym (ap (names_in g) seen ∙ arms_names g els list) in
    let lent = c.deref-a-items.result.now in
    let none = drop_all c.loop-a.a-index lent (omega arith) in
    let first : Looks f c.args.given.now mid (names_in_bodies g list) = record {
      names = sym (ap (λ xs. given_globals mid.names (names_in_bodies g xs)) none) ∙ c.loop-a.invariant.0
          ∙ ap (λ xs. given_globals c.args.given.now.names (names_in_bodies g xs)) c.deref-a-items.ensures.value;
      done = c.loop-a.invariant.1;
    } in
    subst (λ ys. OnOk c.globals_of_block-in-Choose.result (Looks f c.args.given.now new ys)) names
    (on_ok c.globals_of_block-in-Choose.result c.globals_of_block-in-Choose.ensures
    (λ (l : Looks f mid new (names_in_block g (tree.block c.deref-in-Choose.result.now))). looks_both f c.args.given.now
    mid new (names_in_bodies g list) (names_in_block g els) first
    (subst (λ (b : List OrcStmt). Looks f mid new (names_in_block g (tree.block b))) c.deref-in-Choose.ensures.value
    l)))

-- ---- one after another

pub globals_of_block-globals_of_stmt-requires : goal.globals_of_block-globals_of_stmt-requires
globals_of_block-globals_of_stmt-requires t c =
    let light = stmt_lighter c.args.stmts.now c.loop-s.s-index c.s-item.result (omega arith) c.s-item.is in (
      omega (arith, c.decreases, light),
      c.loop-s.invariant.1,
    )

pub globals_of_block-loop-s-preserved : goal.globals_of_block-loop-s-preserved
globals_of_block-loop-s-preserved t c =
    let givers = givers_in c.args.front in
    let x = c.s-item.result in
    let k = c.loop-s.given.names in
    let rest = drop (c.loop-s.s-index + 1) c.args.stmts.now in
    let split = dropped c.args.stmts.now c.loop-s.s-index x (omega arith) c.s-item.is in
    let made = c.in_ok-globals_of_stmt.ensures in (
      ap (λ u. given_globals u (names_in_block givers (tree.block rest))) made.names
          ∙ sym (given_both k (names_in givers (tree.statement x)) (names_in_block givers (tree.block rest)))
          ∙ sym (ap (λ xs. given_globals k (names_in_block givers (tree.block xs))) split) ∙ c.loop-s.invariant.0,
      made.done,
    )

pub globals_of_block-returns : goal.globals_of_block-returns
globals_of_block-returns t c =
    let givers = givers_in c.args.front in
    let none = drop_all c.loop-s.s-index c.args.stmts.now (omega arith) in
    record {
      names = sym (ap (λ xs. given_globals c.loop-s.given.names (names_in_block givers (tree.block xs))) none)
          ∙ c.loop-s.invariant.0;
      done = c.loop-s.invariant.1;
    }
