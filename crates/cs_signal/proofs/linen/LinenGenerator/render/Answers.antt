use Rattle.std.proofs.Common.{ℕ, ℤ, List, ◌∷◌, [], ◌+◌, ◌-◌, length, map, pos, ap, sym, ◌∙◌, subst, arith}
use Rattle.std.specs.List.{range_with_len}
use Rattle.cs_base.specs.Numbers.{one, product_of}
use Rattle.cs_signal.specs.{Linen.LinenState, Linen.linen_step, Steps.run, inner.Ramp.ramp_of}
use Rattle.cs_signal.specs.Operands.{argument, inputs_at, operand_at}
use Rattle.cs_signal.specs.inner.Level.{IsFalling, IsLevel, IsRising}
use Rattle.cs_signal.proofs.{Levels.linen_at_step, Levels.linen_level, Slopes.linen_falls, Slopes.linen_rises}
use Rattle.cs_signal.proofs.Operands as operands
use Rattle.cs_signal.proofs.linen.LinenGenerator.render.Goals as goal

pub returns-in-len1 : goal.returns-in-len1
returns-in-len1 c =
    let s = c.self.inside in
    let n : ℕ = length c.args.out.now in
    let x = c.x-item.result in
    let t : LinenState = record { rise = s.rise; duration = s.duration; decay = s.decay; number = s.number } in
    ap (λ o. (linen_at_step t (s.number + n), o)) c.level.ensures ∙ sym (linen_level (λ (j : ℕ). operand_at x j) t 0 n
    (subst (λ u. IsLevel u n) (sym c.self.view_is) (c.is_level.ensures c.if-is_level.true)))
    ∙ ap (λ u. run linen_step (λ j. operand_at x j ∷ []) u 0 n) c.self.view_is
    ∙ ap (λ xs. run linen_step (inputs_at xs) c.args.self.now 0 n)
    (sym (operands.one c.args.inputs.now x x c.requires.count c.x-item.is))

pub returns-in-len1-2 : goal.returns-in-len1-2
returns-in-len1-2 c =
    let s = c.self.inside in
    let n : ℕ = length c.args.out.now in
    let x = c.x-item-then-inputs-lt2.result in
    let t : LinenState = record { rise = s.rise; duration = s.duration; decay = s.decay; number = s.number } in
    let slope : ℤ → ℤ → List ℤ = λ a b.
    map (λ j. product_of (operand_at x j) (argument (ramp_of a b s.number s.rise n) j)) (range_with_len 0 n) in
    ap (λ o. (linen_at_step t (s.number + n), o)) (c.slope.ensures
    ∙ ap (λ a. slope a c.exact-in-len1-2.result) c.exact.ensures ∙ ap (slope (pos 0)) c.exact-in-len1-2.ensures)
    ∙ sym (linen_rises (λ (j : ℕ). operand_at x j) t n
    (subst (λ u. IsRising u n) (sym c.self.view_is) (c.rises.ensures c.if-rises.true)))
    ∙ ap (λ u. run linen_step (λ j. operand_at x j ∷ []) u 0 n) c.self.view_is
    ∙ ap (λ xs. run linen_step (inputs_at xs) c.args.self.now 0 n)
    (sym (operands.one c.args.inputs.now x x c.requires.count c.x-item-then-inputs-lt2.is))

pub returns-in-len1-3 : goal.returns-in-len1-3
returns-in-len1-3 c =
    let s = c.self.inside in
    let n : ℕ = length c.args.out.now in
    let x = c.x-item-then-inputs-lt2-2.result in
    let t : LinenState = record { rise = s.rise; duration = s.duration; decay = s.decay; number = s.number } in
    let m : ℕ = s.number + s.decay - s.duration in
    let h : IsFalling t n = subst (λ u. IsFalling u n) (sym c.self.view_is) (c.falls.ensures c.if-falls.true) in
    let low = h.falling in
    let slope : ℤ → ℤ → List ℤ = λ a b.
    map (λ j. product_of (operand_at x j) (argument (ramp_of a b m s.decay n) j)) (range_with_len 0 n) in
    ap (λ o. (linen_at_step t (s.number + n), o)) (c.slope-in-len1-3.ensures
    ∙ ap (λ a. slope a c.exact-in-len1-3-2.result) c.exact-in-len1-3.ensures
    ∙ ap (slope one) c.exact-in-len1-3-2.ensures)
    ∙ sym (linen_falls (λ (j : ℕ). operand_at x j) t n m h (omega (arith, low)))
    ∙ ap (λ u. run linen_step (λ j. operand_at x j ∷ []) u 0 n) c.self.view_is
    ∙ ap (λ xs. run linen_step (inputs_at xs) c.args.self.now 0 n)
    (sym (operands.one c.args.inputs.now x x c.requires.count c.x-item-then-inputs-lt2-2.is))
