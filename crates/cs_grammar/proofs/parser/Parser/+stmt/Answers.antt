use Rattle.std.proofs.Common.{◌≡◌, ◌∙◌, Ok, Err, sym, ap, subst, arith, rules, length}
use Rattle.cs_grammar.specs.{declared.tree.Arm.Arm, Reading.ended}
use Rattle.cs_grammar.specs.{declared.tree.StmtWhat.TheBlock.hidden-the_row-OrcStmt-1}
use Rattle.cs_grammar.specs.{declared.tree.StmtWhat.TheBlock.hidden-the_row-Arm-0}
use Rattle.cs_grammar.specs.{declared.tree.StmtWhat.TheViews.the_lemmas, declared.tree.StmtWhat.TheViews.roll-Arm}
use Rattle.cs_grammar.specs.{inner.Answers.Gives, inner.Answers.IsArm}
use Rattle.cs_grammar.specs.Grammar.{ReadsStmt, stmt_beyond, stmt_if, stmt_misplaced}
use Rattle.cs_grammar.specs.Tree.{arms, block, choose, expression, of_arms, of_block, of_what, statement}
use Rattle.cs_grammar.specs.Symbols.{next}
use Rattle.cs_grammar.proofs.{Rows.block_is, Rows.arms_is, Sizes.after_size}
use Rattle.cs_grammar.proofs.Gives.{failed, followed, unpassed, valued}
use Rattle.cs_grammar.proofs.StmtRules.{BlockSoFar, ArmsSoFar, else_in, stmts_in, arm_in, chain_in, line_is}
use Rattle.cs_grammar.proofs.StmtRules.{stmt_shorter, block_begun, block_grown, block_fails, block_done, arms_begun}
use Rattle.cs_grammar.proofs.StmtRules.{arms_grown, arms_fail, arms_unended, arms_done, arm_unmet, arm_is, endif_is}
use Rattle.cs_grammar.proofs.StmtRules.{else_no_line, else_no_block, else_is}
use Rattle.cs_grammar.proofs.parser.Parser.+stmt.Goals as goal

pub stmt-returns-in_err-what-clause-reads : goal.stmt-returns-in_err-what-clause-reads
stmt-returns-in_err-what-clause-reads t c =
    failed (of_what (next c.args.self.now).line) statement _ _ _ _ _ _ c.from_residual.ensures.1
    c.in_err-what.ensures.reads (λ f h. h)

pub stmt-returns-clause-reads : goal.stmt-returns-clause-reads
stmt-returns-clause-reads t c =
    followed statement c.ended.result _ _ _ _ c.ended.ensures.value c.ended.ensures.passes
    (λ st p. subst (λ n. ReadsStmt c.args.scope.now c.args.self.now (valued (of_what n c.in_ok-what.what) st))
    (sym c.line-line.ensures)
    (line_is c.args.scope.now c.args.self.now (of_what (next c.args.self.now).line c.in_ok-what.what) c.what.new.self st
    c.in_ok-what.ensures.reads p))

pub arm-returns-in_err-cond-clause-reads : goal.arm-returns-in_err-cond-clause-reads
arm-returns-in_err-cond-clause-reads t c =
    failed expression arm_in _ _ _ _ _ _ c.from_residual.ensures.1 c.in_err-cond.ensures.reads (λ f h. arm_unmet f h)

pub arm-returns-in_err-body-clause-reads : goal.arm-returns-in_err-body-clause-reads
arm-returns-in_err-body-clause-reads t c =
    failed stmts_in arm_in _ _ _ _ _ _ c.from_residual-in_err-body.ensures.1 c.in_err-body.ensures.reads
    (λ f h. arm_is (expression c.in_ok-cond.cond) c.condition.new.self (Err f) c.in_ok-cond.ensures.reads h)

pub arm-returns-clause-reads : goal.arm-returns-clause-reads
arm-returns-clause-reads t c =
    let a : Arm = roll-Arm (record { cond = c.in_ok-cond.cond; body = c.in_ok-body.body }) in
    let e : arm_in a ≡ (expression c.in_ok-cond.cond, block c.in_ok-body.body.items) = search (rules, the_lemmas) in
    subst (λ p. IsArm c.args.scope.now c.args.self.now (Ok (p, c.block.new.self))) (sym e)
    (arm_is (expression c.in_ok-cond.cond) c.condition.new.self (Ok (block c.in_ok-body.body.items, c.block.new.self))
    c.in_ok-cond.ensures.reads
    c.in_ok-body.ensures.reads)

pub what-returns-in-Beyond-clause-reads : goal.what-returns-in-Beyond-clause-reads
what-returns-in-Beyond-clause-reads t c =
    subst (λ e. Gives (of_what (next c.args.self.now).line) (Err e) c.args.self.now
    (λ o. ReadsStmt c.args.scope.now c.args.self.now
    (ended c.args.scope.now o))) (sym c.fault.ensures) (stmt_beyond (sym c.in-Beyond.ensures.form))

pub what-returns-in-Misplaced-clause-reads : goal.what-returns-in-Misplaced-clause-reads
what-returns-in-Misplaced-clause-reads t c =
    subst (λ e. Gives (of_what (next c.args.self.now).line) (Err e) c.args.self.now
    (λ o. ReadsStmt c.args.scope.now c.args.self.now
    (ended c.args.scope.now o))) (sym c.misfit.ensures) (stmt_misplaced (sym c.in-Misplaced.ensures.form))

pub conditional-returns-in_err-chain-clause-reads : goal.conditional-returns-in_err-chain-clause-reads
conditional-returns-in_err-chain-clause-reads t c =
    failed chain_in (of_what (next c.args.self.now).line) _ _ _ _ _ _ c.from_residual.ensures.1
    c.in_err-chain.ensures.reads
    (λ f h. stmt_if c.requires.form (rw (c.skip.ensures, c.deeper.ensures) at h))

pub conditional-returns-clause-reads : goal.conditional-returns-clause-reads
conditional-returns-clause-reads t c =
    let e : of_arms (of_block (hidden-the_row-OrcStmt-1 c.in_ok-chain.els))
    (hidden-the_row-Arm-0 c.in_ok-chain.chain) ≡ arms (block c.in_ok-chain.els.items)
    c.in_ok-chain.chain.items = search (rules, the_lemmas, block_is, arms_is) in
    subst (λ x. ReadsStmt c.args.scope.now c.args.self.now
    (ended c.args.scope.now (Ok (choose (next c.args.self.now).line x, c.arms.new.self)))) (sym e)
    (stmt_if c.requires.form (rw (c.skip.ensures, c.deeper.ensures) at c.in_ok-chain.ensures.reads))

pub block-loop-stmts-init : goal.block-loop-stmts-init
block-loop-stmts-init t c = record {
  reads = rw c.new-stmts.ensures.items (block_begun c.args.scope.now c.args.self.now);
  goes = omega arith;
}

pub block-returns-in_err-stmt-clause-reads : goal.block-returns-in_err-stmt-clause-reads
block-returns-in_err-stmt-clause-reads t c =
    failed statement stmts_in _ _ _ _ _ _ c.from_residual.ensures.1 c.in_err-stmt.ensures.reads
    (λ f h. block_fails c.args.scope.now c.args.self.now c.loop-stmts.self c.loop-stmts.stmts.items f
    c.loop-stmts.invariant.reads
    (sym c.at_end_of_block.ensures ∙ c.loop-stmts-test.true) h)

pub block-loop-stmts-preserved : goal.block-loop-stmts-preserved
block-loop-stmts-preserved t c = record {
  reads = subst (λ xs. BlockSoFar c.args.scope.now c.args.self.now xs c.stmt.new.self) (sym c.in_ok-push.ensures.items)
      (block_grown c.args.scope.now c.args.self.now c.loop-stmts.self c.stmt.new.self c.loop-stmts.stmts.items
      c.in_ok-stmt.field-0
      c.loop-stmts.invariant.reads (sym c.at_end_of_block.ensures ∙ c.loop-stmts-test.true) c.in_ok-stmt.ensures.reads);
  goes = omega (arith, c.in_ok-stmt.ensures.goes, c.loop-stmts.invariant.goes);
}

pub block-loop-stmts-smaller : goal.block-loop-stmts-smaller
block-loop-stmts-smaller t c =
    stmt_shorter c.args.scope.now c.loop-stmts.self (statement c.in_ok-stmt.field-0) c.stmt.new.self
    c.in_ok-stmt.ensures.reads

pub block-returns-clause-reads : goal.block-returns-clause-reads
block-returns-clause-reads t c =
    block_done c.args.scope.now c.args.self.now c.loop-stmts.self c.loop-stmts.stmts.items c.loop-stmts.invariant.reads
    (sym c.at_end_of_block.ensures ∙ c.loop-stmts-test.false)

pub arms-loop-chain-init : goal.arms-loop-chain-init
arms-loop-chain-init t c = record {
  reads = rw c.new-chain.ensures.items (arms_begun c.args.scope.now c.args.self.now);
  goes = omega arith;
}

pub arms-returns-in_err-arm-clause-reads : goal.arms-returns-in_err-arm-clause-reads
arms-returns-in_err-arm-clause-reads t c =
    failed arm_in chain_in _ _ _ _ _ _ c.from_residual.ensures.1 c.in_err-arm.ensures.reads
    (λ f h. arms_fail c.args.scope.now c.args.self.now c.loop-chain.self c.loop-chain.chain.items f
    c.loop-chain.invariant.reads h)

pub arms-returns-in_err-els-clause-reads : goal.arms-returns-in_err-els-clause-reads
arms-returns-in_err-els-clause-reads t c =
    failed else_in chain_in _ _ _ _ _ _ c.from_residual-in_err-els.ensures.1 c.in_err-els.ensures.reads
    (λ f h. arms_unended c.args.scope.now c.args.self.now c.loop-chain.self c.arm.new.self c.loop-chain.chain.items
    c.in_ok-arm.field-0
    c.loop-chain.invariant.reads c.in_ok-arm.ensures.reads f h)

pub arms-returns-then-not-next_is-clause-reads : goal.arms-returns-then-not-next_is-clause-reads
arms-returns-then-not-next_is-clause-reads t c =
    rw c.in_ok-push.ensures.items
    (arms_done c.args.scope.now c.args.self.now c.loop-chain.self c.arm.new.self c.loop-chain.chain.items
    c.in_ok-arm.field-0 c.loop-chain.invariant.reads c.in_ok-arm.ensures.reads (block c.in_ok-els.els.items)
    c.otherwise.new.self c.in_ok-els.ensures.reads)

pub arms-loop-chain-preserved : goal.arms-loop-chain-preserved
arms-loop-chain-preserved t c = record {
  reads = subst (λ xs. ArmsSoFar c.args.scope.now c.args.self.now xs c.skip.new.self) (sym c.in_ok-push.ensures.items)
      (rw c.skip.ensures (arms_grown c.args.scope.now c.args.self.now c.loop-chain.self c.arm.new.self
      c.loop-chain.chain.items c.in_ok-arm.field-0
      c.loop-chain.invariant.reads c.in_ok-arm.ensures.reads (sym c.next_is.ensures ∙ c.if-not-next_is.false)));
  goes = omega (arith, ap length c.skip.ensures, after_size c.arm.new.self);
}

pub otherwise-returns-then-not-next_is-clause-reads : goal.otherwise-returns-then-not-next_is-clause-reads
otherwise-returns-then-not-next_is-clause-reads t c =
    followed else_in c.followed.result c.new-none.result _ _ _ c.followed.ensures.value c.followed.ensures.passes
    (λ st p. rw c.new-none.ensures.items (endif_is c.requires st (sym c.next_is.ensures ∙ c.if-not-next_is.true) p))

pub otherwise-returns-in_err-end_line-clause-reads : goal.otherwise-returns-in_err-end_line-clause-reads
otherwise-returns-in_err-end_line-clause-reads t c =
    unpassed (Unit {0}) else_in _ _ _ _ _ _ c.from_residual.ensures.1 c.in_err-end_line.ensures.passes
    (λ f p. else_no_line c.requires f (sym c.next_is.ensures ∙ c.if-not-next_is.false) (rw c.skip.ensures at p))

pub otherwise-returns-in_err-stmts-clause-reads : goal.otherwise-returns-in_err-stmts-clause-reads
otherwise-returns-in_err-stmts-clause-reads t c =
    failed stmts_in else_in _ _ _ _ _ _ c.from_residual-in_err-stmts.ensures.1 c.in_err-stmts.ensures.reads
    (λ f h. else_no_block c.requires c.end_line.new.self f (sym c.next_is.ensures ∙ c.if-not-next_is.false)
    (rw c.skip.ensures at c.in_ok-end_line.ensures.passes) h)

pub otherwise-returns-clause-reads : goal.otherwise-returns-clause-reads
otherwise-returns-clause-reads t c =
    followed else_in c.followed-2.result c.in_ok-stmts.stmts _ _ _ c.followed-2.ensures.value
    c.followed-2.ensures.passes
    (λ st p. else_is c.requires c.end_line.new.self c.block.new.self (block c.in_ok-stmts.stmts.items) st
    (sym c.next_is.ensures ∙ c.if-not-next_is.false) (rw c.skip.ensures at c.in_ok-end_line.ensures.passes)
    c.in_ok-stmts.ensures.reads p)
