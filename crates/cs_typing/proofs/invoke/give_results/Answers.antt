use Rattle.std.proofs.Common.{◌≡◌, ◌∙◌, ◌+◌, ◌<◌, ◌≤◌, List, [], ◌∷◌, drop, get_or, length, arith, sym, ap, subst, Vec}
use Rattle.std.proofs.Common.{Global}
use Rattle.std.proofs.lemmas.List.{drop_all, drop_more}
use Rattle.cs_base.specs.Rates.{at_rate}
use Rattle.cs_typed.specs.{declared.tree.TypedStmt.TypedStmt, declared.tree.Var.TheVariants.Local}
use Rattle.cs_words.specs.Names.{name_rate}
use Rattle.cs_typing.specs.{Settings.at, inner.Held.known_of, inner.Held.locals_of, inner.Listed.Adds}
use Rattle.cs_typing.specs.inner.Routines.{all_given_in, given_in, known_in, variable_in}
use Rattle.cs_typing.specs.inner.Slots.{taken_fault, taken_kind, taken_set}
use Rattle.cs_udo.proofs.Places.{dropped}
use Rattle.cs_typing.specs.inner.Answers.{Judged}
use Rattle.cs_typing.proofs.Answers.{failed, same_fault}
use Rattle.cs_typing.proofs.Beside.{fault_first, none_left, none_taken, one_taken, shifted}
use Rattle.cs_typing.proofs.invoke.give_results.Goals.{then-i-rates+in_ok-from+in_ok-take, else-i-rates}
use Rattle.cs_typed.specs.TypedTree as typed
use Rattle.cs_typing.proofs.invoke.give_results.Goals as goal

pub loop-i-preserved : goal.loop-i-preserved
loop-i-preserved c =
    let it = c.args.it.now in
    let s = c.args.setting in
    let k = known_of c.loop-i.names in
    let m = known_in k.shared (locals_of c.give.new.self) in
    let outs = it.definition.now.outs in
    let xs = it.results.now in
    let i = c.loop-i.i in
    let x = c.index-it-i.result in
    let p : drop i xs ≡ x ∷ drop (i + 1) xs = dropped xs i x (omega (arith, c.loop-i-test.true)) c.index-it-i.is in
    let name : c.as_slice-name.result.now ≡ x = c.as_slice-name.ensures ∙ sym c.index-it-i.is in
    let on : m ≡ known_in k.shared (given_in k.locals x) =
    ap (known_in k.shared) (c.in_ok-give.ensures ∙ ap (given_in k.locals) name) in
    let old = c.loop-i.done.items in
    let new = c.if-i-rates.done.items in
    let slots = c.args.slots.now in
    let start = known_of c.args.names.now in
    let fault = taken_fault s it.line xs outs in
    let made : List typed.Block → typed.Block = λ rs.
    typed.then_block (typed.block rs c.args.done.now.items) (taken_set start it.base it.line xs outs slots) in
    let known = known_in start.shared (all_given_in start.locals xs) in
    let rates : c.as_slice-rates.result.now ≡ outs = c.as_slice-rates.ensures in
    elim c.if-i-rates.branch [
      | then-i-rates+in_ok-from+in_ok-take w ↦
          let r = w.in_ok-from.from.rate in
          let n = get_or slots i 0 in
          let low : i < length c.as_slice-rates.result.now = omega (arith, w.if-i-rates) in
          let front : i < length outs = subst (λ ys. i < length ys) rates low in
          let within : i < length slots = omega (arith, front, c.requires) in
          let q : drop i outs ≡ r ∷ drop (i + 1) outs =
          shifted c.as_slice-rates.result.now outs i _ rates low
          ∙ ap (λ y. y ∷ drop (i + 1) outs) (sym w.in_ok-from.ensures.rate) in
          let var : w.in_ok-from.from.var ≡ Local r (at_rate it.base r + n) =
          w.in_ok-from.ensures.var
          ∙ λ j. Local (sym w.in_ok-from.ensures.rate j) (at_rate it.base (sym w.in_ok-from.ensures.rate j) + n) in
          let form = typed.set it.line (name_rate c.as_slice-name.result.now) (variable_in k c.as_slice-name.result.now)
          (typed.var r w.in_ok-from.from.var) in
          let same : form ≡ typed.set it.line (name_rate x) (variable_in k x)
          (typed.var r (Local r (at_rate it.base r + n))) =
          λ j. typed.set it.line (name_rate (name j)) (variable_in k (name j)) (typed.var r (var j)) in
          let added : Adds old new (typed.alone form) =
          subst (λ (v : Vec TypedStmt Global). Adds old v.items (typed.alone form)) (sym w.done-is)
          w.in_ok-take.ensures.made in
          one_taken s k m it.base it.line xs outs slots i x old new r n p q (drop_more slots i 0 within)
          (ap (λ y. at it.line (taken_kind s y r)) (sym name) ∙ w.in_ok-take.ensures.fault)
          (λ bs. added bs ∙ ap (λ f. typed.then_block (typed.block bs old) (typed.alone f)) same) on fault made known
          c.loop-i.invariant
      | else-i-rates w ↦ none_taken s k m it.base it.line xs outs slots i x old new p
          (subst (λ ys. length ys ≤ i) rates (omega (arith, w.if-i-rates)))
          (ap (λ (v : Vec TypedStmt Global). v.items) w.done-is) on fault made known c.loop-i.invariant
    ]

pub returns-in_err-take-clause-fault : goal.returns-in_err-take-clause-fault
returns-in_err-take-clause-fault c =
    let it = c.args.it.now in
    let s = c.args.setting in
    let outs = it.definition.now.outs in
    let xs = it.results.now in
    let i = c.loop-i.i in
    let x = c.index-it-i.result in
    let r = c.in_ok-from.from.rate in
    let p : drop i xs ≡ x ∷ drop (i + 1) xs = dropped xs i x (omega (arith, c.loop-i-test.true)) c.index-it-i.is in
    let q : drop i outs ≡ r ∷ drop (i + 1) outs =
    shifted c.as_slice-rates.result.now outs i _ c.as_slice-rates.ensures (omega (arith, c.if-i-rates.true))
    ∙ ap (λ y. y ∷ drop (i + 1) outs) (sym c.in_ok-from.ensures.rate) in
    let name : c.as_slice-name.result.now ≡ x = c.as_slice-name.ensures ∙ sym c.index-it-i.is in
    failed (λ r. Judged r (taken_fault s it.line xs outs))
    c.from_residual-in_err-take.result _ c.from_residual-in_err-take.ensures.1
    (fault_first _ (at it.line (taken_kind s x r)) _ _ _
    (same_fault _ _ _ c.in_err-take.ensures.fault (ap (λ y. at it.line (taken_kind s y r)) name))
    (λ j. taken_fault s it.line (p j) (q j)) c.loop-i.invariant.0)

pub returns-clause-made : goal.returns-clause-made
returns-clause-made c =
    let it = c.args.it.now in
    let k = known_of c.loop-i.names in
    let outs = it.definition.now.outs in
    let xs = it.results.now in
    let i = c.loop-i.i in
    let none : drop i xs ≡ [] = drop_all i xs (omega (arith, c.loop-i-test.false)) in
    λ rs. none_left rs c.loop-i.done.items _ _
    (ap (λ ys. taken_set k it.base it.line ys (drop i outs) (drop i c.args.slots.now)) none) (c.loop-i.invariant.1 rs)
