use Rattle.std.proofs.Common.{◌≡◌, ◌∙◌, ◌≤◌, ◌<◌, ◌^◌, ◌*◌, ◌/◌, ℤ, pos, ◌+ℤ◌, ap, arith, get_or, length, of_z, refl}
use Rattle.std.proofs.Common.{rules, subst, sym, to_z, unsigned_abs, w64}
use Rattle.std.specs.Int.{w128}
use Rattle.std.proofs.lemmas.{Int.to_z-of_z, List.get_or_default}
use Rattle.cs_gen.proofs.HarmonicSums.{harmonic_is, height_fits, raised-more, sum_fits}
use Rattle.cs_gen.specs.{Points.wave, inner.Harmonics.harmonic}
use Rattle.cs_gen.proofs.harmonics.add_harmonic.Goals as goal

pub loop-sum-preserved : goal.loop-sum-preserved
loop-sum-preserved c =
    let len = length c.args.heights.now in
    let r = c.loop-sum.invariant.1 in
    let i = c.loop-sum.sum-index in
    let phase = c.loop-sum.phase in
    let height : ℤ = get_or c.args.heights.now phase (pos 0) in
    let strength : ℤ = to_z w64 (of_z w64 c.args.strength) in
    let old : ℤ = get_or c.loop-sum.sums i (pos 0) in
    let within : i < length c.loop-sum.sums = omega (arith, c.loop-sum-test.true, r.long) in
    let high : to_z w64 (of_z w64 height) ≡ wave (phase * 2 ^ 24 / len) =
    height_fits height (c.requires.heights.low phase (pos 0) r.inside)
    ∙ c.requires.heights.each phase (pos 0) r.inside in
    let part : c.scaled.result ≡ harmonic len c.args.step strength i =
    harmonic_is len c.args.step i phase strength (to_z w64 (of_z w64 height)) c.scaled.result r.come high
    c.scaled.ensures.value in
    let before : to_z w128 (of_z w128 old) ≡ old =
    sum_fits old (subst (λ z. unsigned_abs z ≤ 2 ^ 126) (sym (r.left i (pos 0) (omega arith)))
    (c.requires.room i (pos 0) c.loop-sum-test.true)) in
    let sum : to_z w128 (of_z w128 c.raised.result) ≡ old +ℤ harmonic len c.args.step strength i =
    to_z-of_z w128 c.raised.result (search rules) ∙ c.raised.ensures
    ∙ ap (λ z. z +ℤ to_z w64 (of_z w64 c.scaled.result)) before
    ∙ ap (λ z. old +ℤ z) (to_z-of_z w64 c.scaled.result (search rules) ∙ part) in (
      refl,
      raised-more len c.args.step (harmonic len c.args.step strength) c.args.sums.now c.loop-sum.sums _ i phase
          c.turned-phase.result (to_z w128 (of_z w128 c.raised.result)) r within refl
          (λ d. sum ∙ ap (λ z. z +ℤ harmonic len c.args.step strength i)
          (get_or_default c.loop-sum.sums i (pos 0) d within))
          (subst (λ z. unsigned_abs z ≤ 2 ^ 47) part c.scaled.ensures.bounded) c.turned-phase.ensures.value
          c.turned-phase.ensures.within,
    )
