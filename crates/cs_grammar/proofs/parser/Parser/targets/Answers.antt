use Rattle.std.proofs.Common.{◌∙◌, ℕ, List, [], sym, ap, subst, arith, length}
use Rattle.cs_grammar.proofs.{Gives.failed, Sizes.after_size}
use Rattle.cs_grammar.proofs.SoFar.{RowSoFar, row_begun, row_done, row_more, row_stop, target_takes}
use Rattle.cs_grammar.specs.Lines.{one_target}
use Rattle.cs_grammar.proofs.parser.Parser.targets.Goals as goal

pub loop-names-init : goal.loop-names-init
loop-names-init c = record {
  reads = rw c.new-names.ensures (row_begun (one_target c.args.scope.now) [] c.args.self.now);
  goes = omega arith;
}

pub returns-in_err-target-clause-reads : goal.returns-in_err-target-clause-reads
returns-in_err-target-clause-reads c =
    failed (λ (n : List ℕ). n) (λ (ns : List (List ℕ)). ns) _ _ _ _ _ _ c.from_residual.ensures.1
    c.in_err-target.ensures.reads
    (λ f h. sym (row_stop (one_target c.args.scope.now) [] c.loop-names.names c.args.self.now c.loop-names.self
    c.loop-names.names f c.loop-names.invariant.reads (sym h)))

pub returns-then-not-next_is-clause-reads : goal.returns-then-not-next_is-clause-reads
returns-then-not-next_is-clause-reads c =
    rw c.in_ok-push.ensures.ok
    (sym (row_done (one_target c.args.scope.now) (target_takes c.args.scope.now) [] c.loop-names.names c.args.self.now
    c.loop-names.self c.target.new.self c.loop-names.names
    c.in_ok-target.field-0 c.loop-names.invariant.reads (sym c.in_ok-target.ensures.reads)
    (sym c.next_is.ensures ∙ c.if-not-next_is.true)))

pub loop-names-preserved : goal.loop-names-preserved
loop-names-preserved c = record {
  reads = subst (λ xs. RowSoFar (one_target c.args.scope.now) [] c.args.self.now xs xs c.skip.new.self)
      (sym c.in_ok-push.ensures.ok)
      (rw c.skip.ensures (row_more (one_target c.args.scope.now) (target_takes c.args.scope.now) [] c.loop-names.names
      c.args.self.now c.loop-names.self c.target.new.self
      c.loop-names.names c.in_ok-target.field-0
      c.loop-names.invariant.reads (sym c.in_ok-target.ensures.reads)
      (sym c.next_is.ensures ∙ c.if-not-next_is.false)));
  goes = omega (arith, ap length c.skip.ensures, after_size c.target.new.self);
}
