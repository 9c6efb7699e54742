use Rattle.std.proofs.Common.{◌≡◌, ◌∙◌, ◌+◌, ◌∷◌, List, drop, arith, ap, sym}
use Rattle.std.proofs.lemmas.List.{drop_all}
use Rattle.cs_typed.specs.TypedTree.{Expression, expression}
use Rattle.cs_code.specs.inner.Code.{keep_all_code, keep_code}
use Rattle.cs_code.specs.{inner.Emitted.expressions_of, inner.Kept.past_all}
use Rattle.cs_code.proofs.{Growing.leads_end, Growing.leads_on, Lists.keep_more, Lists.dropped}
use Rattle.cs_code.proofs.args.keep_all.Goals as goal

pub loop-e-preserved : goal.loop-e-preserved
loop-e-preserved c =
    let was = c.loop-e.invariant in
    let i = c.loop-e.e-index in
    let x = c.e-item.result in
    let e = expression x.now in
    let es : List Expression = expressions_of (drop i c.args.values.now) in
    let rest : List Expression = expressions_of (drop (i + 1) c.args.values.now) in
    let split : es ≡ e ∷ rest = ap expressions_of (dropped c.args.values.now i x (omega arith) c.e-item.is) in
    let at = c.loop-e.next in
    let next = c.in_ok-next.next in
    let made = c.in_ok-next.ensures in (
      leads_on c.args.ops.now c.loop-e.ops c.keep.new.ops (keep_code at e) (keep_all_code at es)
          (keep_all_code next rest) _ was.0 made.ops (keep_more at next es e rest split made.next),
      ap (λ n. past_all n rest) made.next ∙ sym (ap (past_all at) split) ∙ was.1,
    )

pub returns-clause-ops : goal.returns-clause-ops
returns-clause-ops c =
    leads_end c.args.ops.now c.loop-e.ops _ _ c.loop-e.invariant.0
    (ap (λ es. keep_all_code c.loop-e.next (expressions_of es))
    (drop_all c.loop-e.e-index c.args.values.now (omega (arith, c.loop-e-test.false))))
