use Rattle.std.proofs.lemmas.Grind.{common_steps}
use Rattle.std.proofs.Common.{◌≡◌, ◌∙◌, arith, length, rules, sym, ap}
use Rattle.cs_grammar.specs.declared.tree.StmtWhat.TheViews.{the_lemmas}
use Rattle.cs_grammar.proofs.Rows.{block_is, arms_is}
use Rattle.cs_udo.specs.Counted.{counts, counts_in, counts_in_arms}
use Rattle.cs_udo.specs.{Library.definitions_of, Library.opcodes_of, inner.Tallies.after_counts}
use Rattle.cs_udo.proofs.{Tallied.after_both, Places.dropped}
use Rattle.cs_grammar.specs.Tree as tree
use Rattle.cs_udo.proofs.tally.+tally.Goals as goal

pub after_stmt-returns-in-Choose : goal.after_stmt-returns-in-Choose
after_stmt-returns-in-Choose t c =
    let env = opcodes_of (definitions_of c.args.prices.now.library.now) (length c.args.prices.now.costs.now) in
    let els = tree.block c.in-Choose.els.items in
    let line = c.args.s.now.line in
    let seen : tree.statement c.args.s.now ≡ tree.choose line (tree.arms els c.in-Choose.list.items) = search
    (rules, the_lemmas, block_is, arms_is, c.in-Choose.is) in
    c.after_block.ensures
    ∙ ap (λ xs. after_counts c.after_arms.result (counts_in env (tree.block xs))) c.deref-in-Choose-2.ensures.value
    ∙ c.after_arms.ensures els
    ∙ ap (λ xs. after_counts c.add-in-Choose.result (counts_in_arms env (tree.arms els xs)))
    c.deref-in-Choose.ensures.value
    ∙ ap (λ a. after_counts a (counts_in_arms env (tree.arms els c.in-Choose.list.items))) c.add-in-Choose.ensures
    ∙ sym (ap (λ x. after_counts c.args.before (counts env x)) seen)

pub after_block-loop-s-preserved : goal.after_block-loop-s-preserved
after_block-loop-s-preserved t c = grind (arith, common_steps, after_both, dropped)

pub after_arms-loop-a-preserved : goal.after_arms-loop-a-preserved
after_arms-loop-a-preserved t c els = grind (arith, common_steps, after_both, dropped)
