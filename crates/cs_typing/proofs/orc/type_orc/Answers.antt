use Rattle.std.proofs.Common.{◌≡◌, Some, Err}
use Rattle.cs_base.specs.declared.fault.OrcFault.{OrcFault}
use Rattle.cs_typing.specs.{Settings.settings_fault, Typing.type_fault, Typing.typed_of, inner.Settled.settings_of}
use Rattle.cs_typing.specs.inner.Parts.{statements_fault, typed_by}
use Rattle.cs_typing.proofs.{Answers.failed, Answers.fault_on, Ended.given_fault, Ended.fault_is}
use Rattle.cs_typing.proofs.Ended.{settings_break, statements_break, statements_form, given_form, given_right}
use Rattle.cs_udo.specs.Expanded.{expanded_orchestra}
use Rattle.cs_base.specs.declared.fault.Or.TheVariants as or
use Rattle.cs_grammar.specs.Tree as tree
use Rattle.cs_typing.proofs.orc.type_orc.Goals as goal

pub returns-in_err-settings-clause-fault : goal.returns-in_err-settings-clause-fault
returns-in_err-settings-clause-fault c =
    let e = c.args.expansion.now in
    let lines = c.deref.result.now in
    let zero = c.deref-2.result.now in
    let o = tree.orchestra e.orc.now in
    failed (λ r. (f : OrcFault) → r ≡ Err (or.Fault f) → type_fault (expanded_orchestra o) ≡ Some f)
    c.from_residual.result _ c.from_residual.ensures.1
    (λ g is. fault_is _ _ g is (fault_on _ (settings_fault lines (tree.block zero)) _ c.in_err-settings.ensures
    (settings_break e c.requires lines zero c.deref.ensures.value c.deref-2.ensures.value)))

pub returns : goal.returns
returns c =
    let e = c.args.expansion.now in
    let o = tree.orchestra e.orc.now in
    let s = c.in_ok-settings.settings in
    let told_so = c.in_ok-settings.ensures in
    let fault = statements_fault s.head.nchnls o in
    let whole = type_fault (expanded_orchestra o) in
    let form = typed_by (settings_of s) o in
    let same = statements_break e c.requires c.deref.result.now c.deref-2.result.now c.deref.ensures.value
    c.deref-2.ensures.value s told_so.0 told_so.1 in
    record {
      typed = given_form c.typed.result fault form (typed_of (expanded_orchestra o)) c.typed.ensures
          (statements_form e c.requires c.deref.result.now c.deref-2.result.now c.deref.ensures.value
          c.deref-2.ensures.value s told_so.0 told_so.1);
      right = given_right c.typed.result fault whole form c.typed.ensures same;
      fault = λ f is. given_fault c.typed.result fault whole form f c.typed.ensures same is;
    }
