use Rattle.std.proofs.Common.{◌≡◌, ◌<◌, ◌^◌, unsigned_abs, to_z, of_z, w64, sym, subst, ◌∙◌, arith}
use Rattle.std.specs.Int.{w128}
use Rattle.std.proofs.lemmas.Int.{ints}
use Rattle.cs_signal.proofs.Biquads.{short_sum}
use Rattle.cs_signal.proofs.biquad.Biquad.short_sum.Goals as goal

small : (c : goal.After-wide_sum) → unsigned_abs c.wide_sum.result < 2 ^ 61
small c = subst (λ z. unsigned_abs z < 2 ^ 61) (sym c.wide_sum.ensures.value)
    (short_sum c.args.by.now c.args.self.now c.args.x c.requires.small c.requires.input c.requires.short)

pub overflow_cast-result : goal.overflow_cast-result
overflow_cast-result c = let h = small c in omega (arith, ints, h)

pub returns-clause-value : goal.returns-clause-value
returns-clause-value c =
    let h = small c in
    let same : to_z w64 (of_z w64 (to_z w128 (of_z w128 c.wide_sum.result))) ≡ c.wide_sum.result =
    omega (arith, ints, h) in
    same ∙ c.wide_sum.ensures.value

pub returns-clause-bounded : goal.returns-clause-bounded
returns-clause-bounded c = subst (λ z. unsigned_abs z < 2 ^ 61) (sym (returns-clause-value c))
    (short_sum c.args.by.now c.args.self.now c.args.x c.requires.small c.requires.input c.requires.short)
