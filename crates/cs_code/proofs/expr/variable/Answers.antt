use Rattle.std.proofs.Common.{◌≡◌, ◌∙◌, Some, None, ap, subst, sym}
use Rattle.cs_ir.specs.Drafts.{Grew}
use Rattle.cs_typed.specs.TypedTree.{var}
use Rattle.cs_code.specs.{inner.Code.own, inner.Emitted.when_of, inner.Spots.direct}
use Rattle.cs_code.proofs.Growing.{grew_nothing}
use Rattle.cs_code.proofs.Nodes.{made_code, made_spot, there_code, there_spot}
use Rattle.cs_code.proofs.expr.variable.Goals as goal

pub returns-in-Some : goal.returns-in-Some
returns-in-Some c =
    let when = when_of c.args.context.pass in
    let at = c.args.at in
    let e = var c.args.rate c.args.v in
    let there : direct when at e ≡ Some c.in-Some.reg = sym c.in_ok-reg.ensures ∙ c.in-Some.is in
    record {
      ops = grew_nothing c.args.ops.now _ (there_code when at e c.args.d c.in-Some.reg there);
      spot = sym (there_spot when at e c.args.d c.in-Some.reg there);
      next = c.in_ok-next.ensures;
    }

pub returns-in_ok-look-in-None : goal.returns-in_ok-look-in-None
returns-in_ok-look-in-None c =
    let when = when_of c.args.context.pass in
    let at = c.args.at in
    let e = var c.args.rate c.args.v in
    let none : direct when at e ≡ None = sym c.in_ok-reg.ensures ∙ c.in-None.is in
    record {
      ops = subst (Grew c.args.ops.now c.look.new.ops)
          (ap (λ q. own when at e q c.args.d) c.temp-reg.ensures ∙ sym (made_code when at e c.args.d none))
          c.in_ok-look-in-None.ensures;
      spot = c.temp-reg.ensures ∙ sym (made_spot when at e c.args.d none);
      next = c.in_ok-next.ensures;
    }
