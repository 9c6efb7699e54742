use Rattle.std.proofs.Common.{◌≡◌, ◌∙◌, ◌⊎◌, inl, inr, ◌++◌, ℕ, Box, Global, IfOk, OnOk, ap, rules, subst, sym}
use Rattle.cs_ir.specs.Drafts.{Grew}
use Rattle.cs_meaning.specs.When.{beginning}
use Rattle.cs_typed.specs.TypedTree.{apply, expression, neg, pair, pick}
use Rattle.cs_typed.specs.declared.tree.{TypedExpr.TypedExpr, TypedPart.Call, TypedPart.Neg}
use Rattle.cs_words.specs.declared.word.Func.{Func}
use Rattle.cs_code.specs.inner.Code.{code, keep_code}
use Rattle.cs_code.specs.{inner.Emitted.when_of, inner.Kept.past}
use Rattle.cs_code.proofs.Growing.{grew_three, grew_two, on_any, on_then}
use Rattle.cs_code.proofs.Nodes.{keeps_parts, kept_whole, parts_code, parts_past}
use Rattle.cs_code.proofs.expr.+keep.Goals as goal

-- an expression with one part
one_part : (at : ℕ) (e : TypedExpr) (a : Box TypedExpr Global) → (e.what ≡ Neg a) ⊎ ((g : Func) × (e.what ≡ Call g a))
    → (parts_code at (expression e) ≡ keep_code at (expression a.value))
    × (parts_past at (expression e) ≡ past at (expression a.value))
one_part at e a (inl h) =
    let seen : expression e ≡ neg e.rate (expression a.value) = search (rules, h) in
    (ap (parts_code at) seen, ap (parts_past at) seen)
one_part at e a (inr k) =
    let h = k.1 in
    let seen : expression e ≡ apply e.rate k.0 (expression a.value) = search (rules, h) in
    (ap (parts_code at) seen, ap (parts_past at) seen)

pub returns-in-Neg : goal.returns-in-Neg
returns-in-Neg t c =
    let at = c.args.at in
    let parts = keeps_parts at c.args.e.now c.in-Control.is in
    let one = one_part at c.args.e.now c.in-Neg.a c.in-Neg.is in
    record {
      ops = subst (λ l. OnOk c.keep-in-Neg.result (Grew c.args.ops.now c.keep-in-Neg.new.ops l))
          (ap (λ z. keep_code at (expression z)) c.deref-in-Neg.ensures ∙ sym (parts.0 ∙ one.0))
          c.keep-in-Neg.ensures.ops;
      next = subst (λ m. IfOk c.keep-in-Neg.result (λ n. n ≡ m))
          (ap (λ z. past at (expression z)) c.deref-in-Neg.ensures ∙ sym (parts.1 ∙ one.1)) c.keep-in-Neg.ensures.next;
    }

pub returns-in_ok-next-in-Pair : goal.returns-in_ok-next-in-Pair
returns-in_ok-next-in-Pair t c =
    let at = c.args.at in
    let e = c.args.e.now in
    let y = c.deref.result.now in
    let z = c.deref-in-Pair.result.now in
    let parts = keeps_parts at e c.in-Control.is in
    let seen : expression e
    ≡ pair e.rate c.in-Pair.field-0 (expression c.in-Pair.a.value) (expression c.in-Pair.b.value) =
    search (rules, c.in-Pair.is) in
    let is : expression e ≡ pair e.rate c.in-Pair.field-0 (expression y) (expression z) =
    seen ∙ sym (λ i. pair e.rate c.in-Pair.field-0 (expression (c.deref.ensures i))
    (expression (c.deref-in-Pair.ensures i))) in
    let next = c.in_ok-next-in-Pair.ensures.next in
    record {
      ops = on_then c.keep-in-Pair.result (λ more. grew_two c.args.ops.now c.keep.new.ops c.keep-in-Pair.new.ops _ _ _
          c.in_ok-next-in-Pair.ensures.ops more
          (ap (λ n. keep_code at (expression y) ++ keep_code n (expression z)) next
          ∙ sym (parts.0 ∙ ap (parts_code at) is))) c.keep-in-Pair.ensures.ops;
      next = subst (λ m. IfOk c.keep-in-Pair.result (λ n. n ≡ m))
          (ap (λ n. past n (expression z)) next ∙ sym (parts.1 ∙ ap (parts_past at) is)) c.keep-in-Pair.ensures.next;
    }

pub returns-in_ok-next-in-Pick-2 : goal.returns-in_ok-next-in-Pick-2
returns-in_ok-next-in-Pick-2 t c =
    let at = c.args.at in
    let e = c.args.e.now in
    let v = c.deref-in-Pick.result.now in
    let y = c.deref-in-Pick-2.result.now in
    let z = c.deref-in-Pick-3.result.now in
    let parts = keeps_parts at e c.in-Control.is in
    let seen : expression e
    ≡ pick e.rate (expression c.in-Pick.c.value) (expression c.in-Pick.a.value) (expression c.in-Pick.b.value) =
    search (rules, c.in-Pick.is) in
    let is : expression e ≡ pick e.rate (expression v) (expression y) (expression z) =
    seen ∙ sym (λ i. pick e.rate (expression (c.deref-in-Pick.ensures i)) (expression (c.deref-in-Pick-2.ensures i))
    (expression (c.deref-in-Pick-3.ensures i))) in
    let first : c.in_ok-next-in-Pick.next ≡ past at (expression v) = c.in_ok-next-in-Pick.ensures.next in
    let last : c.in_ok-next-in-Pick-2.next ≡ past (past at (expression v)) (expression y) =
    c.in_ok-next-in-Pick-2.ensures.next ∙ ap (λ n. past n (expression y)) first in
    record {
      ops = on_then c.keep-in-Pick-3.result (λ more. grew_three c.args.ops.now c.keep-in-Pick.new.ops
          c.keep-in-Pick-2.new.ops c.keep-in-Pick-3.new.ops _ _ _ _ c.in_ok-next-in-Pick.ensures.ops
          c.in_ok-next-in-Pick-2.ensures.ops more ((λ i. keep_code at (expression v)
          ++ (keep_code (first i) (expression y) ++ keep_code (last i) (expression z)))
          ∙ sym (parts.0 ∙ ap (parts_code at) is))) c.keep-in-Pick-3.ensures.ops;
      next = subst (λ m. IfOk c.keep-in-Pick-3.result (λ n. n ≡ m))
          (ap (λ n. past n (expression z)) last ∙ sym (parts.1 ∙ ap (parts_past at) is)) c.keep-in-Pick-3.ensures.next;
    }

pub returns-in_ok-code-in-Init : goal.returns-in_ok-code-in-Init
returns-in_ok-code-in-Init t c =
    let at = c.args.at in
    let k = expression c.args.e.now in
    let whole = kept_whole at c.args.e.now c.in-Init.is in
    record {
      ops = on_any c.add.result (subst (Grew c.args.ops.now c.code.new.ops)
          (ap (λ w. code (when_of w) 0 k c.kept_reg.result 0) c.requires
          ∙ ap (λ q. code beginning 0 k q 0) c.kept_reg.ensures ∙ sym whole.0) c.in_ok-code-in-Init.ensures.ops);
      next = subst (λ m. IfOk c.add.result (λ n. n ≡ m)) (sym whole.1) c.add.ensures;
    }
