use Rattle.std.proofs.Common.{◌≡◌, ◌∙◌, ◌+◌, ◌<◌, ℕ, List, None, get_or, length, map, arith, refl, sym, ap}
use Rattle.cs_base.specs.Rates.{at_rate}
use Rattle.cs_grammar.specs.Tree.{argument, expression}
use Rattle.cs_typed.specs.declared.tree.Var.TheVariants.{Local}
use Rattle.cs_words.specs.Names.{name_rate}
use Rattle.cs_typing.specs.{Expressions.expression_by, Settings.at, Statements.set_fault_by}
use Rattle.cs_typing.specs.inner.Held.{known_of, locals_of}
use Rattle.cs_typing.specs.inner.Answers.{Judged}
use Rattle.cs_typing.specs.inner.Routines.{inputs_fault, knows_in, number_in, variable_in}
use Rattle.cs_typing.proofs.Answers.{failed}
use Rattle.cs_typing.proofs.Beside.{InputsMade, at_end, at_word, both_next, fault_first, fault_next, in_both}
use Rattle.cs_typing.proofs.Beside.{inputs_end, inputs_made, made_next, none_left, past_both}
use Rattle.cs_typed.specs.TypedTree as typed
use Rattle.cs_typing.proofs.invoke.give_inputs.Goals as goal

pub bounds-it-i : goal.bounds-it-i
bounds-it-i c = omega (arith, c.min-i-end.ensures, c.loop-i-test.true)

pub bounds-list-i : goal.bounds-list-i
bounds-list-i c = omega (arith, c.min-i-end.ensures, c.loop-i-test.true)

pub returns-in-Text : goal.returns-in-Text
returns-in-Text c =
    let it = c.args.it.now in
    let s = c.args.setting in
    let k = known_of c.args.names.now in
    let first = locals_of c.args.inputs.now in
    let names = it.definition.now.names in
    let low = in_both names it.args.now c.loop-i.i c.min-i-end.ensures c.as_slice-list.ensures refl
    (omega (arith, c.loop-i-test.true)) in
    let none = at_word (List ℕ) InputsMade (inputs_made s k first it.line) (None, typed.no_stmt)
    (inputs_end s k first it.line) names it.args.now c.loop-i.i c.index-it-i.result _
    (omega (arith, low)) c.index-it-i.is (c.index-it-i.is ∙ c.in-Text.is) in
    record {
      fault = sym c.loop-i.invariant.0 ∙ ap (λ x. x.0) none;
      made = λ rs. none_left rs c.loop-i.done.items _ _ (ap (λ x. x.1) none) (c.loop-i.invariant.1 rs);
    }

pub loop-i-preserved : goal.loop-i-preserved
loop-i-preserved c =
    let it = c.args.it.now in
    let s = c.args.setting in
    let k = known_of c.args.names.now in
    let first = locals_of c.args.inputs.now in
    let names = it.definition.now.names in
    let args = it.args.now in
    let i = c.loop-i.i in
    let x = c.index-list-i.result in
    let a = c.index-it-i.result in
    let e = c.in-Value.e in
    let low = in_both names args i c.min-i-end.ensures c.as_slice-list.ensures refl
    (omega (arith, c.loop-i-test.true)) in
    let front : i < length names = omega (arith, low) in
    let back : i < length args = omega (arith, low) in
    let here : x ≡ get_or names i x = c.index-list-i.is ∙ ap (λ xs. get_or xs i x) c.as_slice-list.ensures in
    let to = c.in_ok-to-in-Value.to in
    let rate : c.name_rate.result ≡ name_rate x = c.name_rate.ensures ∙ ap name_rate c.as_slice-name.ensures in
    let number : c.number.result ≡ number_in first x =
    c.number.ensures ∙ ap (number_in first) c.as_slice-name.ensures in
    let rate_is : to.rate ≡ name_rate x = c.in_ok-to-in-Value.ensures.rate ∙ rate in
    let var_is : to.var ≡ Local (name_rate x) (at_rate k.locals.counts (name_rate x) + number_in first x) =
    c.in_ok-to-in-Value.ensures.var ∙ λ j. Local (rate j) (at_rate (c.requires j) (rate j) + number j) in
    let value = expression_by (variable_in k) (expression e) in
    let judged = c.in_ok-set-in-Value.ensures.fault x (sym rate_is) in
    let next = both_next (inputs_made s k first it.line) names args i x a e front here back c.index-it-i.is
    (c.index-it-i.is ∙ c.in-Value.is) in
    let form : typed.Statement =
    typed.set it.line (name_rate x) (Local (name_rate x) (at_rate k.locals.counts (name_rate x) + number_in first x))
    value in
    let same : typed.set it.line to.rate to.var value ≡ form = λ j. typed.set it.line (rate_is j) (var_is j) value in
    let new = c.set.new.done.items in (
      fault_next (at it.line (set_fault_by s (knows_in k) x (expression e))) _ _ _
          (ap (λ x. x.0) next) judged c.loop-i.invariant.0,
      λ rs. made_next rs c.loop-i.done.items new (typed.set it.line to.rate to.var value) form _ _ _
          c.in_ok-set-in-Value.ensures.made same (ap (λ x. x.1) next) (c.loop-i.invariant.1 rs),
    )

pub returns-in_err-set-in-Value-clause-fault : goal.returns-in_err-set-in-Value-clause-fault
returns-in_err-set-in-Value-clause-fault c =
    let it = c.args.it.now in
    let s = c.args.setting in
    let k = known_of c.args.names.now in
    let names = it.definition.now.names in
    let args = it.args.now in
    let i = c.loop-i.i in
    let x = c.index-list-i.result in
    let e = c.in-Value.e in
    let low = in_both names args i c.min-i-end.ensures c.as_slice-list.ensures refl
    (omega (arith, c.loop-i-test.true)) in
    let rate : c.in_ok-to-in-Value.to.rate ≡ name_rate x =
    c.in_ok-to-in-Value.ensures.rate ∙ c.name_rate.ensures ∙ ap name_rate c.as_slice-name.ensures in
    failed (λ r. Judged r (inputs_fault s k it.line names (map argument args)))
    c.from_residual-in_err-set-in-Value.result _ c.from_residual-in_err-set-in-Value.ensures.1
    (fault_first _ (at it.line (set_fault_by s (knows_in k) x (expression e))) _ _ _
    (c.in_err-set-in-Value.ensures.fault x (sym rate))
    (both_next (inputs_fault s k it.line) names args i x c.index-it-i.result e (omega (arith, low))
    (c.index-list-i.is ∙ ap (λ xs. get_or xs i x) c.as_slice-list.ensures) (omega (arith, low)) c.index-it-i.is
    (c.index-it-i.is ∙ c.in-Value.is)) c.loop-i.invariant.0)

pub returns : goal.returns
returns c =
    let it = c.args.it.now in
    let s = c.args.setting in
    let k = known_of c.args.names.now in
    let first = locals_of c.args.inputs.now in
    let names = it.definition.now.names in
    let past = past_both names it.args.now c.loop-i.i c.min-i-end.ensures c.as_slice-list.ensures refl
    (omega (arith, c.loop-i-test.false)) in
    let none = at_end (List ℕ) InputsMade (inputs_made s k first it.line) (None, typed.no_stmt)
    (inputs_end s k first it.line) names it.args.now c.loop-i.i past in
    record {
      fault = sym c.loop-i.invariant.0 ∙ ap (λ x. x.0) none;
      made = λ rs. none_left rs c.loop-i.done.items _ _ (ap (λ x. x.1) none) (c.loop-i.invariant.1 rs);
    }
