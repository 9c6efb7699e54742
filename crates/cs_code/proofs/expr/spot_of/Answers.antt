use Rattle.std.proofs.Common.{◌≡◌, ◌∙◌, ◌+◌, Some, None, ap, subst, sym}
use Rattle.cs_ir.specs.{Drafts.Grew, Waves.if_init}
use Rattle.cs_typed.specs.WellRated.{node_rate}
use Rattle.cs_code.specs.{inner.Code.own, inner.Emitted.value_of, inner.Emitted.when_of, inner.Spots.direct}
use Rattle.cs_code.specs.inner.Spots.{temp}
use Rattle.cs_code.proofs.Growing.{grew_nothing}
use Rattle.cs_code.proofs.Nodes.{made_code, made_spot, there_code, there_past, there_spot}
use Rattle.cs_code.proofs.expr.spot_of.Goals as goal

pub returns-in_ok-next_of-in-Some : goal.returns-in_ok-next_of-in-Some
returns-in_ok-next_of-in-Some c =
    let when = when_of c.args.context.pass in
    let at = c.args.at in
    let e = value_of c.args.value.now in
    let there : direct when at e ≡ Some c.in-Some.reg = sym c.in_ok-reg.ensures ∙ c.in-Some.is in
    record {
      ops = grew_nothing c.args.ops.now _ (there_code when at e 0 c.in-Some.reg there);
      spot = sym (there_spot when at e 0 c.in-Some.reg there);
      next = c.in_ok-next_of-in-Some.ensures ∙ ap (λ r. if_init r (at + 1) at) c.rate_of.ensures
          ∙ sym (there_past when at e c.in-Some.reg there);
    }

pub returns-in_ok-next-in-None : goal.returns-in_ok-next-in-None
returns-in_ok-next-in-None c =
    let when = when_of c.args.context.pass in
    let at = c.args.at in
    let e = value_of c.args.value.now in
    let none : direct when at e ≡ None = sym c.in_ok-reg.ensures ∙ c.in-None.is in
    let into : c.temp-reg.result ≡ temp (node_rate e) 0 =
    c.temp-reg.ensures ∙ ap (λ r. temp r 0) c.rate_of-in-None.ensures in
    record {
      ops = subst (Grew c.args.ops.now c.made.new.ops)
          (ap (λ q. own when at e q 0) into ∙ sym (made_code when at e 0 none)) c.in_ok-next-in-None.ensures.ops;
      spot = into ∙ sym (made_spot when at e 0 none);
      next = c.in_ok-next-in-None.ensures.next;
    }
