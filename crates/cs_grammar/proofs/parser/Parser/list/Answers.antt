use Rattle.std.proofs.Common.{◌∙◌, sym, ap, subst, map, arith, length}
use Rattle.cs_grammar.proofs.{Gives.failed, Sizes.after_size, StmtRules.args_in}
use Rattle.cs_grammar.proofs.SoFar.{ListSoFar, list_begun, list_stop, args_grown, args_done}
use Rattle.cs_grammar.specs.Tree.{argument}
use Rattle.cs_grammar.proofs.parser.Parser.list.Goals as goal

pub loop-args-init : goal.loop-args-init
loop-args-init c = record {
  reads = rw c.new-args.ensures.items (list_begun c.args.scope.now c.args.role c.args.self.now);
  goes = omega arith;
}

pub returns-in_err-argument-clause-reads : goal.returns-in_err-argument-clause-reads
returns-in_err-argument-clause-reads c =
    failed argument args_in _ _ _ _ _ _ c.from_residual.ensures.1 c.in_err-argument.ensures.reads
    (λ f h. list_stop c.args.scope.now c.args.role c.args.self.now c.loop-args.self
    (map argument c.loop-args.args.items) f c.loop-args.invariant.reads h)

pub returns-then-not-next_is-clause-reads : goal.returns-then-not-next_is-clause-reads
returns-then-not-next_is-clause-reads c =
    rw c.in_ok-push.ensures.items
    (args_done c.args.scope.now c.args.role c.args.self.now c.loop-args.self c.argument.new.self c.loop-args.args.items
    c.in_ok-argument.field-0 c.loop-args.invariant.reads c.in_ok-argument.ensures.reads
    (sym c.next_is.ensures ∙ c.if-not-next_is.true))

pub loop-args-preserved : goal.loop-args-preserved
loop-args-preserved c = record {
  reads = subst (λ xs. ListSoFar c.args.scope.now c.args.role c.args.self.now (map argument xs) c.skip.new.self)
      (sym c.in_ok-push.ensures.items)
      (rw c.skip.ensures (args_grown c.args.scope.now c.args.role c.args.self.now c.loop-args.self c.argument.new.self
      c.loop-args.args.items
      c.in_ok-argument.field-0 c.loop-args.invariant.reads c.in_ok-argument.ensures.reads
      (sym c.next_is.ensures ∙ c.if-not-next_is.false)));
  goes = omega (arith, ap length c.skip.ensures, after_size c.argument.new.self);
}
