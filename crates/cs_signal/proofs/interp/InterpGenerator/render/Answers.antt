use Rattle.std.proofs.Common.{◌≡◌, ◌∷◌, [], ◌+◌, ◌-◌, suc, length, ap, sym, ◌∙◌, arith}
use Rattle.cs_signal.specs.{Interp.InterpState, Interp.interp_step, Operands.inputs_at, Steps.run, inner.Ramp.ramp_of}
use Rattle.cs_signal.specs.declared.operand.Operand.TheVariants.{Held}
use Rattle.cs_signal.proofs.{Operands.one, Ramps.interp_ramp}
use Rattle.cs_signal.proofs.interp.InterpGenerator.render.Goals as goal

pub returns-in-Held : goal.returns-in-Held
returns-in-Held c =
    let s = c.self.inside in
    let x = c.in-Held.x in
    let n = length c.args.out.now in
    let t : InterpState = record { ksmps = s.ksmps; before = s.before; sample = s.sample } in
    let first : s.sample ≡ 0 = c.if-self-eq0.true in
    let whole : n ≡ s.ksmps = c.if-out-self.true in
    let long : n ≡ suc (n - 1) = omega (arith, whole, c.self.invariant) in
    let read = c.index-inputs-0 in
    let all : c.args.inputs.now ≡ Held x ∷ [] =
    one c.args.inputs.now read.result read.result c.requires.count read.is ∙ ap (λ o. o ∷ []) c.in-Held.is in
    ap (λ o. (record { ksmps = s.ksmps; before = x; sample = s.sample }, o)) c.ramp.ensures
    ∙ ap (λ k. (record { ksmps = s.ksmps; before = x; sample = k }, ramp_of s.before x 1 s.ksmps n)) first
    ∙ ap (λ k. (record { ksmps = s.ksmps; before = x; sample = 0 }, ramp_of s.before x k s.ksmps n))
    (omega (arith, first))
    ∙ ap (λ k. (record { ksmps = s.ksmps; before = x; sample = 0 }, ramp_of s.before x (s.sample + 1) s.ksmps k)) long
    ∙ sym (interp_ramp t x 0 (n - 1) (omega (arith, first, whole, long)))
    ∙ ap (λ k. run interp_step (λ j. x ∷ []) t 0 k) (sym long)
    ∙ ap (λ v. run interp_step (λ j. x ∷ []) v 0 n) c.self.view_is
    ∙ ap (λ xs. run interp_step (inputs_at xs) c.args.self.now 0 n) (sym all)
