use Rattle.std.proofs.Common.{◌≡◌, ◌∙◌, ◌+◌, Some, None, ap, refl, rules, subst, sym, IfOk, OnOk}
use Rattle.cs_ir.specs.{Drafts.Grew, Waves.if_init}
use Rattle.cs_ir.specs.declared.op.Act.TheVariants as act
use Rattle.cs_typed.specs.TypedTree.{Expression, expression, number, var, field, head, apply, neg, pair, pick}
use Rattle.cs_typed.specs.WellRated.{node_rate}
use Rattle.cs_code.specs.{inner.Code.own, inner.Emitted.when_of, inner.Kept.past, inner.Spots.direct, inner.Spots.temp}
use Rattle.cs_code.proofs.Growing.{grew_nothing, on_any, on_then}
use Rattle.cs_code.proofs.Nodes.{made_code, made_one, made_pair, made_past, made_pick, made_spot, rate_of_part}
use Rattle.cs_code.proofs.Nodes.{there_code, there_past, there_spot}
use Rattle.cs_code.proofs.expr.+expr.Goals as goal

pub own-returns-in_ok-b-in-Pair : goal.own-returns-in_ok-b-in-Pair
own-returns-in_ok-b-in-Pair t c =
    let e = c.args.e.now in
    let y = c.deref-in-Pair.result.now in
    let z = c.deref-in-Pair-2.result.now in
    let y_is : c.in-Pair.a.value ≡ y = search (c.deref-in-Pair.ensures) in
    let z_is : c.in-Pair.b.value ≡ z = search (c.deref-in-Pair-2.ensures) in
    let seen : expression e ≡ pair e.rate c.in-Pair.op (expression c.in-Pair.a.value) (expression c.in-Pair.b.value) =
    search (rules, c.in-Pair.is) in
    let is : expression e ≡ pair e.rate c.in-Pair.op (expression y) (expression z) =
    seen ∙ (λ i. pair e.rate c.in-Pair.op (expression (y_is i)) (expression (z_is i))) in
    record {
      ops = on_then c.finish-in-Pair.result
          (made_pair (when_of c.args.context.pass) c.args.at c.in_ok-a-in-Pair.a.next c.args.d
          c.in_ok-add-in-Pair.field-0 e.rate c.in-Pair.op (expression e) (expression y) (expression z) c.args.into
          c.in_ok-a-in-Pair.a.reg c.in_ok-b-in-Pair.b.reg c.two-from.result c.args.ops.now c.operand-in-Pair.new.ops
          c.operand-in-Pair-2.new.ops c.finish-in-Pair.new.ops is c.in_ok-a-in-Pair.ensures.next
          c.in_ok-add-in-Pair.ensures c.in_ok-a-in-Pair.ensures.spot c.in_ok-b-in-Pair.ensures.spot c.two-from.ensures
          c.in_ok-a-in-Pair.ensures.ops c.in_ok-b-in-Pair.ensures.ops) c.finish-in-Pair.ensures.ops;
      next = made_past c.finish-in-Pair.result c.args.at c.in_ok-b-in-Pair.b.next (expression e) _ is
          (c.in_ok-b-in-Pair.ensures.next ∙ ap (λ n. past n (expression z)) c.in_ok-a-in-Pair.ensures.next)
          c.finish-in-Pair.ensures.next;
    }

pub own-returns-in_ok-b-in-Pick : goal.own-returns-in_ok-b-in-Pick
own-returns-in_ok-b-in-Pick t c =
    let e = c.args.e.now in
    let v = c.deref-in-Pick.result.now in
    let y = c.deref-in-Pick-2.result.now in
    let z = c.deref-in-Pick-3.result.now in
    let v_is : c.in-Pick.c.value ≡ v = search (c.deref-in-Pick.ensures) in
    let y_is : c.in-Pick.a.value ≡ y = search (c.deref-in-Pick-2.ensures) in
    let z_is : c.in-Pick.b.value ≡ z = search (c.deref-in-Pick-3.ensures) in
    let seen : expression e
    ≡ pick e.rate (expression c.in-Pick.c.value) (expression c.in-Pick.a.value) (expression c.in-Pick.b.value) =
    search (rules, c.in-Pick.is) in
    let is : expression e ≡ pick e.rate (expression v) (expression y) (expression z) =
    seen ∙ (λ i. pick e.rate (expression (v_is i)) (expression (y_is i)) (expression (z_is i))) in
    record {
      ops = on_then c.finish-in-Pick.result
          (made_pick (when_of c.args.context.pass) c.args.at c.in_ok-c-in-Pick.c.next c.in_ok-a-in-Pick.a.next c.args.d
          c.in_ok-second-in-Pick.second c.in_ok-add-in-Pick.field-0 e.rate (expression e) (expression v)
          (expression y) (expression z) c.args.into c.in_ok-c-in-Pick.c.reg c.in_ok-a-in-Pick.a.reg
          c.in_ok-b-in-Pick.b.reg c.three-from.result c.args.ops.now c.operand-in-Pick.new.ops
          c.operand-in-Pick-2.new.ops c.operand-in-Pick-3.new.ops c.finish-in-Pick.new.ops is
          c.in_ok-c-in-Pick.ensures.next c.in_ok-a-in-Pick.ensures.next c.in_ok-second-in-Pick.ensures
          c.in_ok-add-in-Pick.ensures c.in_ok-c-in-Pick.ensures.spot c.in_ok-a-in-Pick.ensures.spot
          c.in_ok-b-in-Pick.ensures.spot c.three-from.ensures c.in_ok-c-in-Pick.ensures.ops
          c.in_ok-a-in-Pick.ensures.ops c.in_ok-b-in-Pick.ensures.ops) c.finish-in-Pick.ensures.ops;
      next = made_past c.finish-in-Pick.result c.args.at c.in_ok-b-in-Pick.b.next (expression e) _ is
          (c.in_ok-b-in-Pick.ensures.next ∙ ap (λ n. past n (expression z))
          (c.in_ok-a-in-Pick.ensures.next ∙ ap (λ n. past n (expression y)) c.in_ok-c-in-Pick.ensures.next))
          c.finish-in-Pick.ensures.next;
    }

pub own-returns-in_ok-a-in-Neg : goal.own-returns-in_ok-a-in-Neg
own-returns-in_ok-a-in-Neg t c =
    let e = c.args.e.now in
    let y = c.deref.result.now in
    let y_is : c.in-Neg.a.value ≡ y = search (c.deref.ensures) in
    let seen : expression e ≡ neg e.rate (expression c.in-Neg.a.value) = search (rules, c.in-Neg.is) in
    let is : expression e ≡ neg e.rate (expression y) = seen ∙ (λ i. neg e.rate (expression (y_is i))) in
    record {
      ops = on_then c.finish.result
          (made_one (when_of c.args.context.pass) c.args.at c.args.d act.Neg (expression e) _ (expression y) c.args.into
          c.in_ok-a-in-Neg.a.reg c.one-from.result c.args.ops.now c.operand.new.ops c.finish.new.ops is refl
          c.in_ok-a-in-Neg.ensures.spot c.one-from.ensures c.in_ok-a-in-Neg.ensures.ops) c.finish.ensures.ops;
      next = made_past c.finish.result c.args.at c.in_ok-a-in-Neg.a.next (expression e) _ is
          c.in_ok-a-in-Neg.ensures.next c.finish.ensures.next;
    }

pub own-returns-in_ok-a-in-Call : goal.own-returns-in_ok-a-in-Call
own-returns-in_ok-a-in-Call t c =
    let e = c.args.e.now in
    let y = c.deref-in-Call.result.now in
    let y_is : c.in-Call.a.value ≡ y = search (c.deref-in-Call.ensures) in
    let g = c.in-Call.func in
    let seen : expression e ≡ apply e.rate g (expression c.in-Call.a.value) = search (rules, c.in-Call.is) in
    let is : expression e ≡ apply e.rate g (expression y) = seen ∙ (λ i. apply e.rate g (expression (y_is i))) in
    record {
      ops = on_then c.finish-in-Call.result
          (made_one (when_of c.args.context.pass) c.args.at c.args.d (act.Call g) (expression e) _ (expression y)
          c.args.into c.in_ok-a-in-Call.a.reg c.one-from-in-Call.result c.args.ops.now c.operand-in-Call.new.ops
          c.finish-in-Call.new.ops is refl c.in_ok-a-in-Call.ensures.spot c.one-from-in-Call.ensures
          c.in_ok-a-in-Call.ensures.ops) c.finish-in-Call.ensures.ops;
      next = made_past c.finish-in-Call.result c.args.at c.in_ok-a-in-Call.a.next (expression e) _ is
          c.in_ok-a-in-Call.ensures.next c.finish-in-Call.ensures.next;
    }

pub operand-returns-in_ok-next_of-in-Some : goal.operand-returns-in_ok-next_of-in-Some
operand-returns-in_ok-next_of-in-Some t c =
    let when = when_of c.args.context.pass in
    let at = c.args.at in
    let e = c.args.e.now in
    let there : direct when at (expression e) ≡ Some c.in-Some.reg = sym c.in_ok-reg.ensures ∙ c.in-Some.is in
    record {
      ops = grew_nothing c.args.ops.now _ (there_code when at (expression e) c.args.d c.in-Some.reg there);
      spot = sym (there_spot when at (expression e) c.args.d c.in-Some.reg there);
      next = c.in_ok-next_of-in-Some.ensures ∙ ap (λ r. if_init r (at + 1) at) (sym (rate_of_part e.rate e.what))
          ∙ sym (there_past when at (expression e) c.in-Some.reg there);
    }

pub operand-returns-in_ok-next-in-None : goal.operand-returns-in_ok-next-in-None
operand-returns-in_ok-next-in-None t c =
    let when = when_of c.args.context.pass in
    let at = c.args.at in
    let e = c.args.e.now in
    let none : direct when at (expression e) ≡ None = sym c.in_ok-reg.ensures ∙ c.in-None.is in
    let into : c.temp-reg.result ≡ temp (node_rate (expression e)) c.args.d =
    c.temp-reg.ensures ∙ ap (λ r. temp r c.args.d) (sym (rate_of_part e.rate e.what)) in
    record {
      ops = subst (Grew c.args.ops.now c.own.new.ops)
          (ap (λ q. own when at (expression e) q c.args.d) into ∙ sym (made_code when at (expression e) c.args.d none))
          c.in_ok-next-in-None.ensures.ops;
      spot = into ∙ sym (made_spot when at (expression e) c.args.d none);
      next = c.in_ok-next-in-None.ensures.next;
    }

pub own-returns-in-Number : goal.own-returns-in-Number
own-returns-in-Number t c =
    let e = c.args.e.now in
    let is : expression e ≡ number e.rate c.in-Number.value = search (rules, c.in-Number.is) in
    record {
      ops = subst (λ (x : Expression). OnOk c.leaf.result (Grew c.args.ops.now c.leaf.new.ops
          (own (when_of c.args.context.pass) c.args.at x c.args.into c.args.d))) (sym is) c.leaf.ensures.ops;
      next = subst (λ (x : Expression). IfOk c.leaf.result (λ n. n ≡ past c.args.at x)) (sym is) c.leaf.ensures.next;
    }

pub own-returns-in-Field : goal.own-returns-in-Field
own-returns-in-Field t c =
    let e = c.args.e.now in
    let is : expression e ≡ field e.rate c.in-Field.field = search (rules, c.in-Field.is) in
    record {
      ops = subst (λ (x : Expression). OnOk c.leaf-in-Field.result (Grew c.args.ops.now c.leaf-in-Field.new.ops
          (own (when_of c.args.context.pass) c.args.at x c.args.into c.args.d))) (sym is) c.leaf-in-Field.ensures.ops;
      next = subst (λ (x : Expression). IfOk c.leaf-in-Field.result (λ n. n ≡ past c.args.at x)) (sym is)
          c.leaf-in-Field.ensures.next;
    }

pub own-returns-in-Head : goal.own-returns-in-Head
own-returns-in-Head t c =
    let e = c.args.e.now in
    let is : expression e ≡ head e.rate c.in-Head.name = search (rules, c.in-Head.is) in
    record {
      ops = subst (λ (x : Expression). OnOk c.leaf-in-Head.result (Grew c.args.ops.now c.leaf-in-Head.new.ops
          (own (when_of c.args.context.pass) c.args.at x c.args.into c.args.d))) (sym is) c.leaf-in-Head.ensures.ops;
      next = subst (λ (x : Expression). IfOk c.leaf-in-Head.result (λ n. n ≡ past c.args.at x)) (sym is)
          c.leaf-in-Head.ensures.next;
    }

pub own-returns-in_ok-look-in-Var : goal.own-returns-in_ok-look-in-Var
own-returns-in_ok-look-in-Var t c =
    let e = c.args.e.now in
    let is : expression e ≡ var e.rate c.in-Var.v = search (rules, c.in-Var.is) in
    record {
      ops = on_any c.next_of.result (subst (λ (x : Expression). Grew c.args.ops.now c.look.new.ops
          (own (when_of c.args.context.pass) c.args.at x c.args.into c.args.d)) (sym is) c.in_ok-look-in-Var.ensures);
      next = subst (λ (x : Expression). IfOk c.next_of.result (λ n. n ≡ past c.args.at x)) (sym is) c.next_of.ensures;
    }
