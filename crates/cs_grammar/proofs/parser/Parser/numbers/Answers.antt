use Rattle.std.proofs.Common.{◌∙◌, ◌++◌, ◌∷◌, ℕ, List, [], sym, ap, subst}
use Rattle.std.proofs.lemmas.List.{append_assoc, append-nil}
use Rattle.cs_grammar.proofs.Gives.{failed}
use Rattle.cs_grammar.proofs.SoFar.{RowSoFar, number_takes, row_begun, row_done, row_more, row_stop}
use Rattle.cs_grammar.specs.Lines.{one_number}
use Rattle.cs_grammar.proofs.parser.Parser.numbers.Goals as goal

pub loop-numbers-init : goal.loop-numbers-init
loop-numbers-init c = record {
  reads = rw c.new-numbers.ensures (row_begun (one_number c.args.scope.now) c.args.given.now.keys c.args.self.now);
  given = sym (append-nil c.args.given.now.keys) ∙ ap (λ xs. c.args.given.now.keys ++ xs) (sym c.new-numbers.ensures);
}

pub returns-in_err-number-clause-reads : goal.returns-in_err-number-clause-reads
returns-in_err-number-clause-reads c =
    failed (λ (n : ℕ). n) (λ (ns : List ℕ). ns) _ _ _ _ _ _ c.from_residual.ensures.1 c.in_err-number.ensures.reads
    (λ f h. sym (row_stop (one_number c.args.scope.now) c.args.given.now.keys c.loop-numbers.given.keys c.args.self.now
    c.loop-numbers.self c.loop-numbers.numbers f c.loop-numbers.invariant.reads (sym h)))

pub returns-then-not-next_is-clause-reads : goal.returns-then-not-next_is-clause-reads
returns-then-not-next_is-clause-reads c =
    rw c.in_ok-push.ensures.ok
    (sym (row_done (one_number c.args.scope.now) (number_takes c.args.scope.now) c.args.given.now.keys
    c.loop-numbers.given.keys c.args.self.now c.loop-numbers.self c.number.new.self c.loop-numbers.numbers
    c.in_ok-number.field-0 c.loop-numbers.invariant.reads
    (sym c.in_ok-number.ensures.reads)
    (sym c.next_is.ensures ∙ c.if-not-next_is.true)))

pub returns-then-not-next_is-clause-given : goal.returns-then-not-next_is-clause-given
returns-then-not-next_is-clause-given c =
    c.in_ok-number.ensures.given ∙ ap (λ g. g ++ c.in_ok-number.field-0 ∷ []) c.loop-numbers.invariant.given
    ∙ append_assoc c.args.given.now.keys c.loop-numbers.numbers (c.in_ok-number.field-0 ∷ [])
    ∙ ap (λ xs. c.args.given.now.keys ++ xs) (sym c.in_ok-push.ensures.ok)

pub loop-numbers-preserved : goal.loop-numbers-preserved
loop-numbers-preserved c = record {
  reads = subst (λ xs. RowSoFar (one_number c.args.scope.now) c.args.given.now.keys c.args.self.now xs
      c.number.new.given.keys c.skip.new.self) (sym c.in_ok-push.ensures.ok)
      (subst (λ g. RowSoFar (one_number c.args.scope.now) c.args.given.now.keys c.args.self.now
      (c.loop-numbers.numbers ++ c.in_ok-number.field-0 ∷ []) g c.skip.new.self)
      (sym c.in_ok-number.ensures.given)
      (rw c.skip.ensures (row_more (one_number c.args.scope.now) (number_takes c.args.scope.now) c.args.given.now.keys
      c.loop-numbers.given.keys c.args.self.now c.loop-numbers.self c.number.new.self
      c.loop-numbers.numbers c.in_ok-number.field-0 c.loop-numbers.invariant.reads
      (sym c.in_ok-number.ensures.reads)
      (sym c.next_is.ensures ∙ c.if-not-next_is.false))));
  given = c.in_ok-number.ensures.given ∙ ap (λ g. g ++ c.in_ok-number.field-0 ∷ []) c.loop-numbers.invariant.given
      ∙ append_assoc c.args.given.now.keys c.loop-numbers.numbers (c.in_ok-number.field-0 ∷ [])
      ∙ ap (λ xs. c.args.given.now.keys ++ xs) (sym c.in_ok-push.ensures.ok);
}
