use Rattle.std.proofs.Common.{◌≡◌, ◌∙◌, ◌++◌, [], ◌∷◌, ap, subst, sym, OnOk}
use Rattle.cs_ir.proofs.Drafting.{grew_on}
use Rattle.cs_ir.specs.Drafts.{Grew}
use Rattle.cs_typed.specs.declared.tree.Var.{Var}
use Rattle.cs_code.specs.{inner.Code.operand_code, inner.Code.set_code, inner.Spots.op_of, inner.Spots.spot}
use Rattle.cs_code.specs.inner.Emitted.{value_of, when_of}
use Rattle.cs_ir.specs.declared.op.Act.TheVariants as act
use Rattle.cs_code.proofs.expr.set.Goals as goal

pub returns-in-Local-clause-ops : goal.returns-in-Local-clause-ops
returns-in-Local-clause-ops c =
    subst (λ (v : Var). OnOk c.set_local.result (Grew c.args.ops.now c.set_local.new.ops
    (set_code (when_of c.args.context.pass) c.args.at v (value_of c.args.value.now))))
    (sym c.in-Local.is) c.set_local.ensures.ops

pub returns-in-Local-clause-next : goal.returns-in-Local-clause-next
returns-in-Local-clause-next c = c.set_local.ensures.next

pub returns-in_ok-push-in-Global-clause-ops : goal.returns-in_ok-push-in-Global-clause-ops
returns-in_ok-push-in-Global-clause-ops c =
    let e = value_of c.args.value.now in
    let when = when_of c.args.context.pass in
    let there = c.in_ok-spot-in-Global.ensures.spot in
    let regs : c.one.result ≡ spot when c.args.at e 0 ∷ [] = c.one.ensures ∙ ap (λ q. q ∷ []) there in
    subst (Grew c.args.ops.now c.push.new.ops)
    ((λ i. operand_code when c.args.at e 0 ++ (op_of (act.Save c.in-Global.res) (there i) (regs i) ∷ []))
    ∙ sym (ap (λ (v : Var). set_code when c.args.at v e) c.in-Global.is))
    (grew_on c.args.ops.now c.spot_of.new.ops c.push.new.ops _ _ c.in_ok-spot-in-Global.ensures.ops
    c.in_ok-push-in-Global.ensures)

pub returns-in_ok-push-in-Global-clause-next : goal.returns-in_ok-push-in-Global-clause-next
returns-in_ok-push-in-Global-clause-next c = c.in_ok-spot-in-Global.ensures.next
