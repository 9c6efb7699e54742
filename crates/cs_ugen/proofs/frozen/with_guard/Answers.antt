use Rattle.std.proofs.Common.{◌≡◌, ◌%◌, ◌++◌, ◌∷◌, [], length, ap, sym, ◌∙◌, arith}
use Rattle.cs_signal.specs.Operands.{argument}
use Rattle.cs_ugen.proofs.Shorts.{guard_behind, guard_last}
use Rattle.cs_ugen.proofs.frozen.with_guard.Goals as goal

pub returns-then-len-eq1 : goal.returns-then-len-eq1
returns-then-len-eq1 c = sym (guard_last c.args.points.items (omega (arith, c.len.ensures, c.if-len-eq1.true)))

pub returns : goal.returns
returns c =
    let points = c.args.points.items in
    let odd = c.if-len-eq1.false in
    let even : length points % 2 ≡ 0 = omega (arith, c.len.ensures, odd) in
    c.push_reserved.ensures.items ∙ ap (λ l. l ++ c.argument-guard.result ∷ []) c.in_ok-reserve_exact.ensures.items
    ∙ ap (λ z. points ++ z ∷ []) (c.argument-guard.ensures ∙ ap (λ l. argument l 0) c.deref.ensures.value)
    ∙ sym (guard_behind points even)
