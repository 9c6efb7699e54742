use Rattle.std.proofs.Common.{◌≡◌, ◌∙◌, Ok, Err, Some, None, sym, refl, ap, subst, arith, length}
use Rattle.cs_grammar.proofs.{Sizes.after_size, Gives.failed, Gives.followed, Rules.raised}
use Rattle.cs_grammar.proofs.Rules.{group_is, closed_is, call_is, pick_unmet, pick_is, right_fails, alone, none_of}
use Rattle.cs_grammar.specs.{Parts.operator_of, inner.Answers.in_box}
use Rattle.cs_grammar.specs.Grammar.{ReadsTail, binary, fact_group, fact_neg, no_more, one_alone, one_more, ReadsExpr}
use Rattle.cs_grammar.specs.Tree.{Expression, expression, pair, pick}
use Rattle.cs_grammar.specs.Symbols.{next}
use Rattle.cs_grammar.specs.declared.expr.Level.TheVariants as at
use Rattle.cs_grammar.proofs.parser.Parser.+expr.Goals as goal

pub boxed-returns-in_err-value-clause-reads : goal.boxed-returns-in_err-value-clause-reads
boxed-returns-in_err-value-clause-reads t c =
    failed expression in_box _ _ _ _ _ _ c.from_residual.ensures.1 c.in_err-value.ensures.reads (λ f h. h)

pub negation-returns-in_err-part-clause-reads : goal.negation-returns-in_err-part-clause-reads
negation-returns-in_err-part-clause-reads t c =
    failed in_box expression _ _ _ _ _ _ c.from_residual.ensures.1 c.in_err-part.ensures.reads
    (λ f h. fact_neg c.requires (rw c.skip.ensures at h))

pub negation-returns-clause-reads : goal.negation-returns-clause-reads
negation-returns-clause-reads t c = fact_neg c.requires (rw c.skip.ensures at c.in_ok-part.ensures.reads)

pub bracket-returns-in_err-first-clause-reads : goal.bracket-returns-in_err-first-clause-reads
bracket-returns-in_err-first-clause-reads t c =
    failed expression expression _ _ _ _ _ _ c.from_residual.ensures.1 c.in_err-first.ensures.reads
    (λ f h. fact_group c.requires (rw c.skip.ensures at h) refl)

pub bracket-returns-clause-reads : goal.bracket-returns-clause-reads
bracket-returns-clause-reads t c =
    followed expression c.followed.result c.in_ok-first.first _ _ _ c.followed.ensures.value c.followed.ensures.passes
    (λ st p. group_is (expression c.in_ok-first.first) c.expr.new.self st c.requires
    (rw c.skip.ensures at c.in_ok-first.ensures.reads)
    (sym c.next_is.ensures ∙ c.if-next_is.false) p)

pub function-returns-in_err-argument-clause-reads : goal.function-returns-in_err-argument-clause-reads
function-returns-in_err-argument-clause-reads t c =
    failed in_box expression _ _ _ _ _ _ c.from_residual.ensures.1 c.in_err-argument.ensures.reads
    (λ f h. call_is c.args.func (Err f) c.requires (rw (c.skip-2.ensures, c.skip.ensures) at h))

pub function-returns-clause-reads : goal.function-returns-clause-reads
function-returns-clause-reads t c =
    call_is c.args.func (Ok (in_box c.in_ok-argument.argument, c.closed.new.self)) c.requires
    (rw (c.skip-2.ensures, c.skip.ensures) at c.in_ok-argument.ensures.reads)

pub closed-returns-in_err-part-clause-reads : goal.closed-returns-in_err-part-clause-reads
closed-returns-in_err-part-clause-reads t c =
    failed in_box in_box _ _ _ _ _ _ c.from_residual.ensures.1 c.in_err-part.ensures.reads (λ f h. (Err f, h, refl))

pub closed-returns-clause-reads : goal.closed-returns-clause-reads
closed-returns-clause-reads t c =
    followed in_box c.followed.result c.in_ok-part.part _ _ _ c.followed.ensures.value c.followed.ensures.passes
    (λ st p. closed_is c.args.end (in_box c.in_ok-part.part) c.boxed.new.self st c.in_ok-part.ensures.reads p)

pub choice-returns-in_err-yes-clause-reads : goal.choice-returns-in_err-yes-clause-reads
choice-returns-in_err-yes-clause-reads t c =
    failed in_box expression _ _ _ _ _ _ c.from_residual-in_err-yes.ensures.1 c.in_err-yes.ensures.reads
    (λ f h ts m k. pick_unmet (expression c.args.cond) c.args.self.now m k c.requires f (rw c.skip.ensures at h))

pub choice-returns-in_err-no-clause-reads : goal.choice-returns-in_err-no-clause-reads
choice-returns-in_err-no-clause-reads t c =
    failed in_box expression _ _ _ _ _ _ c.from_residual-in_err-no.ensures.1 c.in_err-no.ensures.reads
    (λ f h ts m k. pick_is (expression c.args.cond) c.args.self.now m k c.requires (in_box c.in_ok-yes.yes)
    c.closed.new.self (Err f)
    (rw c.skip.ensures at c.in_ok-yes.ensures.reads) h)

pub choice-returns-clause-reads : goal.choice-returns-clause-reads
choice-returns-clause-reads t c = λ ts m k.
    subst (λ v. ReadsExpr c.args.scope.now at.Fact (Ok ts)
    (Ok (pick (expression v) (in_box c.in_ok-yes.yes) (in_box c.in_ok-no.no), c.closed-2.new.self)))
    (sym c.in_ok-cond.ensures.ok)
    (pick_is (expression c.args.cond) c.args.self.now m k c.requires (in_box c.in_ok-yes.yes) c.closed.new.self
    (Ok (in_box c.in_ok-no.no, c.closed-2.new.self))
    (rw c.skip.ensures at c.in_ok-yes.ensures.reads)
    c.in_ok-no.ensures.reads)

pub fact-returns-in-Alone-clause-reads : goal.fact-returns-in-Alone-clause-reads
fact-returns-in-Alone-clause-reads t c =
    alone expression c.atom.result c.atom.new.self c.args.self.now c.args.scope.now (sym c.in-Alone.ensures)
    c.atom.ensures.reads

pub expr-returns-in_err-value-clause-reads : goal.expr-returns-in_err-value-clause-reads
expr-returns-in_err-value-clause-reads t c =
    failed expression expression _ _ _ _ _ _ c.from_residual.ensures.1 c.in_err-value.ensures.reads
    (λ f h. raised c.args.level at.Fact (omega arith) h)

pub expr-loop-outer-init : goal.expr-loop-outer-init
expr-loop-outer-init t c = record {
  reads = c.in_ok-value.ensures.reads;
  goes = c.in_ok-value.ensures.goes;
  within = omega arith;
}

pub expr-returns-in_err-value-2-clause-reads : goal.expr-returns-in_err-value-2-clause-reads
expr-returns-in_err-value-2-clause-reads t c =
    failed expression expression _ _ _ _ _ _ c.from_residual-in_err-value-2.ensures.1 c.in_err-value-2.ensures.reads
    (λ f h. raised c.args.level c.in-Some.outer c.in-Some.ensures.next.1
    (binary c.in-Some.ensures.next.0 c.loop-outer.invariant.reads h))

pub expr-loop-outer-preserved : goal.expr-loop-outer-preserved
expr-loop-outer-preserved t c = record {
  reads = binary c.in-Some.ensures.next.0 c.loop-outer.invariant.reads c.in_ok-value-2.ensures.reads;
  goes = omega (arith, c.in_ok-value-2.ensures.goes, c.loop-outer.invariant.goes);
  within = c.in-Some.ensures.next.1;
}

pub operators-returns-in_err-right-clause-reads : goal.operators-returns-in_err-right-clause-reads
operators-returns-in_err-right-clause-reads t c =
    let op : operator_of c.args.level (next c.loop-op.self).kind ≡ Some c.in-Some.op = cc in
    failed in_box expression _ _ _ _ _ _ c.from_residual-in_err-right.ensures.1 c.in_err-right.ensures.reads
    (λ f h. c.loop-op.invariant.reads (Err f)
    (right_fails (expression c.loop-op.left) f op c.requires (rw c.skip.ensures at h)))

pub operators-returns-then-not-repeats-clause-reads : goal.operators-returns-then-not-repeats-clause-reads
operators-returns-then-not-repeats-clause-reads t c =
    let op : operator_of c.args.level (next c.loop-op.self).kind ≡ Some c.in-Some.op = cc in
    let x : Expression = pair c.in-Some.op (in_box c.in_ok-operand.operand) (in_box c.in_ok-right.right) in
    c.loop-op.invariant.reads (Ok (x, c.boxed.new.self)) (subst
    (λ v. ReadsTail c.args.scope.now c.args.level (Ok (expression v, c.loop-op.self)) (Ok (x, c.boxed.new.self)))
    c.in_ok-operand.ensures.ok
    (one_alone op (sym c.if-not-repeats.ensures) c.requires (rw c.skip.ensures at c.in_ok-right.ensures.reads)))

pub operators-loop-op-preserved : goal.operators-loop-op-preserved
operators-loop-op-preserved t c =
    let op : operator_of c.args.level (next c.loop-op.self).kind ≡ Some c.in-Some.op = cc in
    record {
      reads = λ out k. c.loop-op.invariant.reads out (subst
          (λ v. ReadsTail c.args.scope.now c.args.level (Ok (expression v, c.loop-op.self)) out)
          c.in_ok-operand.ensures.ok
          (one_more op (sym c.if-not-repeats.ensures) c.requires (rw c.skip.ensures at c.in_ok-right.ensures.reads) k));
      goes = omega (arith, ap length c.skip.ensures, after_size c.loop-op.self);
    }

pub operators-returns-clause-reads : goal.operators-returns-clause-reads
operators-returns-clause-reads t c =
    let none : operator_of c.args.level (next c.loop-op.self).kind ≡ None =
    (ap (operator_of c.args.level) (sym c.kind.ensures) ∙ sym c.operator.ensures ∙
    none_of c.operator.result c.in_default.not-Some) in
    c.loop-op.invariant.reads (Ok (expression c.loop-op.left, c.loop-op.self)) (no_more none)
