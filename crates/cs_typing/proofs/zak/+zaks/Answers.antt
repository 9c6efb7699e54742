use Rattle.std.proofs.Common.{◌≡◌, ◌∙◌, ◌+◌, arith, drop, rules, sym, ap}
use Rattle.cs_grammar.specs.{declared.tree.Arm.out-Arm, declared.tree.StmtWhat.TheViews.the_lemmas}
use Rattle.cs_grammar.proofs.Rows.{block_is, arms_is}
use Rattle.cs_typing.specs.{Settings.zaks, Settings.zaks_of_block, Settings.zaks_of_arms, inner.Settled.after_zaks}
use Rattle.cs_typing.proofs.Zaks.{after_both, dropped}
use Rattle.cs_grammar.specs.Tree as tree
use Rattle.cs_typing.proofs.zak.+zaks.Goals as goal

pub after_stmt-returns-in-Choose : goal.after_stmt-returns-in-Choose
after_stmt-returns-in-Choose t c =
    let els = tree.block c.in-Choose.els.items in
    let seen : tree.statement c.args.s.now ≡ tree.choose c.args.s.now.line (tree.arms els c.in-Choose.list.items) =
    search (rules, the_lemmas, block_is, arms_is, c.in-Choose.is) in
    c.after_block.ensures
    ∙ ap (λ xs. after_zaks c.after_arms.result (zaks_of_block (tree.block xs))) c.deref-in-Choose-2.ensures.value
    ∙ c.after_arms.ensures els
    ∙ ap (λ xs. after_zaks c.args.before (zaks_of_arms (tree.arms els xs))) c.deref-in-Choose.ensures.value
    ∙ sym (ap (λ x. after_zaks c.args.before (zaks x)) seen)

pub after_block-loop-s-preserved : goal.after_block-loop-s-preserved
after_block-loop-s-preserved t c =
    let x = c.s-item.result in
    let rest = drop (c.loop-s.s-index + 1) c.args.stmts.now in
    let split = dropped c.args.stmts.now c.loop-s.s-index x (omega arith) c.s-item.is in
    ap (λ s. after_zaks s (zaks_of_block (tree.block rest))) c.after_stmt-known.ensures
    ∙ sym (after_both c.loop-s.known (zaks (tree.statement x)) (zaks_of_block (tree.block rest)))
    ∙ sym (ap (λ xs. after_zaks c.loop-s.known (zaks_of_block (tree.block xs))) split) ∙ c.loop-s.invariant

pub after_arms-loop-a-preserved : goal.after_arms-loop-a-preserved
after_arms-loop-a-preserved t c els =
    let x = c.a-item.result in
    let rest = drop (c.loop-a.a-index + 1) c.args.list.now in
    let split = dropped c.args.list.now c.loop-a.a-index x (omega arith) c.a-item.is in
    ap (λ s. after_zaks s (zaks_of_arms (tree.arms els rest))) (c.after_block-known.ensures
    ∙ ap (λ xs. after_zaks c.loop-a.known (zaks_of_block (tree.block xs))) c.deref.ensures.value)
    ∙ sym (after_both c.loop-a.known (zaks_of_block (tree.block (out-Arm x).body.items))
    (zaks_of_arms (tree.arms els rest)))
    ∙ sym (ap (λ xs. after_zaks c.loop-a.known (zaks_of_arms (tree.arms els xs))) split) ∙ c.loop-a.invariant els
