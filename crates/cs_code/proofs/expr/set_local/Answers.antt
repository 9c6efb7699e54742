use Rattle.std.proofs.Common.{◌≡◌, ◌∙◌, ◌++◌, [], ◌∷◌, false, if◌then◌else◌, sym, ap, ap₂, subst}
use Rattle.cs_base.specs.Rates.{same_rate}
use Rattle.cs_ir.proofs.Drafting.{grew_on}
use Rattle.cs_ir.specs.Drafts.{Grew}
use Rattle.cs_meaning.specs.Notes.{reg}
use Rattle.cs_typed.specs.WellRated.{node_rate}
use Rattle.cs_code.specs.{inner.Code.code, inner.Code.operand_code, inner.Spots.op_of, inner.Spots.spot}
use Rattle.cs_code.specs.inner.Emitted.{value_of, when_of}
use Rattle.cs_ir.specs.declared.op.Act.TheVariants as act
use Rattle.cs_code.proofs.expr.set_local.Goals as goal

pub returns-in_ok-push-clause-ops : goal.returns-in_ok-push-clause-ops
returns-in_ok-push-clause-ops c =
    let e = value_of c.args.value.now in
    let when = when_of c.args.context.pass in
    let own = c.args.own in
    let to = reg own c.args.index in
    let made = operand_code when c.args.at e 0 in
    let copy = op_of act.Copy to (spot when c.args.at e 0 ∷ []) ∷ [] in
    let other : same_rate (node_rate e) own ≡ false =
    sym (ap (λ r. same_rate r own) c.rate_of.ensures) ∙ sym c.same.ensures ∙ c.if-same.false in
    subst (Grew c.args.ops.now c.push.new.ops) (ap₂ (λ q ys. made ++ op_of act.Copy q ys ∷ []) c.in_ok-to.ensures
    (c.one.ensures ∙ ap (λ q. q ∷ []) c.in_ok-spot.ensures.spot)
    ∙ sym (ap (λ b. if b then code when c.args.at e to 0 else made ++ copy) other))
    (grew_on c.args.ops.now c.spot_of.new.ops c.push.new.ops made _ c.in_ok-spot.ensures.ops c.in_ok-push.ensures)
