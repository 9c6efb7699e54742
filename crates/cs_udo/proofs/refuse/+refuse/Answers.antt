use Rattle.std.proofs.lemmas.Grind.{common_steps}
use Rattle.std.proofs.Common.{◌≡◌, ◌∙◌, arith, rules, sym, ap}
use Rattle.cs_grammar.specs.declared.tree.StmtWhat.TheViews.{the_lemmas}
use Rattle.cs_grammar.proofs.Rows.{block_is, arms_is}
use Rattle.cs_udo.specs.Refused.{faults, faults_in, faults_in_arms}
use Rattle.cs_udo.specs.{Library.definitions_of, Library.opcodes_of, inner.Walks.after_faults}
use Rattle.cs_udo.proofs.{Faulted.after_both, Places.dropped}
use Rattle.cs_grammar.specs.Tree as tree
use Rattle.cs_udo.proofs.refuse.+refuse.Goals as goal

pub after_stmt-returns-in-Choose : goal.after_stmt-returns-in-Choose
after_stmt-returns-in-Choose t c =
    let env = opcodes_of (definitions_of c.args.site.now.library.now) c.args.site.now.visible in
    let inside = c.args.site.now.inside in
    let els = tree.block c.in-Choose.els.items in
    let seen : tree.statement c.args.s.now ≡ tree.choose c.args.s.now.line (tree.arms els c.in-Choose.list.items) =
    search
    (rules, the_lemmas, block_is, arms_is, c.in-Choose.is) in
    c.after_block.ensures
    ∙ ap (λ xs. after_faults c.after_arms.result (faults_in env inside (tree.block xs)))
    c.deref-in-Choose-2.ensures.value
    ∙ c.after_arms.ensures els
    ∙ ap (λ xs. after_faults c.args.first (faults_in_arms env inside (tree.arms els xs)))
    c.deref-in-Choose.ensures.value
    ∙ sym (ap (λ x. after_faults c.args.first (faults env inside x)) seen)

pub after_block-loop-s-preserved : goal.after_block-loop-s-preserved
after_block-loop-s-preserved t c = grind (arith, common_steps, after_both, dropped)

pub after_arms-loop-a-preserved : goal.after_arms-loop-a-preserved
after_arms-loop-a-preserved t c els = grind (arith, common_steps, after_both, dropped)
