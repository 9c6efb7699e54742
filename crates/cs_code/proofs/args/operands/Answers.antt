use Rattle.std.proofs.Common.{◌≡◌, ◌∙◌, ◌+◌, ◌++◌, ◌∷◌, [], List, drop, arith, ap, refl, sym}
use Rattle.std.proofs.lemmas.List.{append-nil, drop_all}
use Rattle.cs_typed.specs.TypedTree.{Expression, expression}
use Rattle.cs_code.specs.{inner.Code.operand_code, inner.Code.operands_code, inner.Kept.past_all, inner.Spots.spots}
use Rattle.cs_code.specs.inner.Emitted.{expressions_of, when_of}
use Rattle.cs_code.proofs.{Growing.leads_end, Growing.leads_on, Lists.operands_more, Lists.spots_more, Lists.dropped}
use Rattle.cs_code.proofs.args.operands.Goals as goal

pub loop-e-init : goal.loop-e-init
loop-e-init c = (
  λ d made. made,
  ap (λ qs. qs ++ spots (when_of c.args.context.pass) c.args.at (expressions_of c.args.values.now) 0)
      c.new-regs.ensures.items,
  refl,
)

pub loop-e-preserved : goal.loop-e-preserved
loop-e-preserved c =
    let was = c.loop-e.invariant in
    let i = c.loop-e.e-index in
    let x = c.e-item.result in
    let e = expression x.now in
    let way = when_of c.args.context.pass in
    let es : List Expression = expressions_of (drop i c.args.values.now) in
    let rest : List Expression = expressions_of (drop (i + 1) c.args.values.now) in
    let split : es ≡ e ∷ rest = ap expressions_of (dropped c.args.values.now i x (omega arith) c.e-item.is) in
    let made = c.in_ok-spot.ensures in
    let regs = c.in_ok-push.ensures.items ∙ ap (λ q. c.loop-e.regs.items ++ q ∷ []) made.spot in
    let at = c.loop-e.next in
    let next = c.in_ok-spot.spot.next in
    let d = c.loop-e.d in (
      leads_on c.args.ops.now c.loop-e.ops c.operand.new.ops (operand_code way at e d) (operands_code way at es d)
          (operands_code way next rest c.in_ok-d.d) _ was.0 made.ops
          (operands_more way at next d c.in_ok-d.d es e rest split made.next c.in_ok-d.ensures),
      spots_more way c.loop-e.regs.items c.push.new.self.items _ at next d c.in_ok-d.d es e rest split regs made.next
          c.in_ok-d.ensures was.1,
      ap (λ n. past_all n rest) made.next ∙ sym (ap (past_all at) split) ∙ was.2,
    )

pub returns-clause-ops : goal.returns-clause-ops
returns-clause-ops c =
    leads_end c.args.ops.now c.loop-e.ops _ _ c.loop-e.invariant.0
    (ap (λ es. operands_code (when_of c.args.context.pass) c.loop-e.next (expressions_of es) c.loop-e.d)
    (drop_all c.loop-e.e-index c.args.values.now (omega (arith, c.loop-e-test.false))))

pub returns-clause-regs : goal.returns-clause-regs
returns-clause-regs c =
    let regs = c.loop-e.regs.items in
    sym (append-nil regs)
    ∙ ap (λ es. regs ++ spots (when_of c.args.context.pass) c.loop-e.next (expressions_of es) c.loop-e.d)
    (sym (drop_all c.loop-e.e-index c.args.values.now (omega (arith, c.loop-e-test.false)))) ∙ c.loop-e.invariant.1

pub returns-clause-next : goal.returns-clause-next
returns-clause-next c =
    ap (λ es. past_all c.loop-e.next (expressions_of es))
    (sym (drop_all c.loop-e.e-index c.args.values.now (omega (arith, c.loop-e-test.false)))) ∙ c.loop-e.invariant.2
