use Rattle.std.proofs.Common.{◌+◌, ◌∙◌, ap, arith, length, pos, refl, rules, subst, sym, to_z, w64}
use Rattle.std.proofs.lemmas.{Int.to_z-of_z, List.get_or_default}
use Rattle.cs_gen.specs.inner.Harmonics.{AreSums}
use Rattle.cs_gen.proofs.HarmonicSums.{sums-more, sums-none, sums-room, sums-weak}
use Rattle.cs_gen.proofs.harmonics.add_harmonics.Goals.{then-raw-ne0, else-raw-ne0}
use Rattle.cs_gen.proofs.harmonics.add_harmonics.Goals as goal

pub loop-k-init : goal.loop-k-init
loop-k-init c =
    (refl, sums-none (length c.args.heights.now) c.args.strengths.now c.args.sums.now c.requires.none)

pub loop-k-preserved : goal.loop-k-preserved
loop-k-preserved c =
    let len = length c.args.heights.now in
    let all = c.args.strengths.now in
    let k = c.loop-k.k in
    let n = length c.args.sums.now in
    let at = c.index-strengths-k.is ∙ get_or_default all k _ (pos 0) (omega (arith, c.loop-k-test.true)) in (
      refl,
      elim c.if-raw-ne0.branch [
        | then-raw-ne0 w ↦ subst (AreSums len all (k + 1) n) (sym w.sums-is)
            (sums-more len all k n c.loop-k.sums w.add_harmonic.new.sums _ _ c.loop-k.invariant.1 refl
            (to_z-of_z w64 w.raw-then-raw-ne0.result (search rules) ∙ w.raw-then-raw-ne0.ensures.value ∙ at)
            w.add_harmonic.ensures)
        | else-raw-ne0 w ↦ subst (AreSums len all (k + 1) n) (sym w.sums-is)
            (sums-weak len all k n c.loop-k.sums c.loop-k.invariant.1 (sym at ∙ sym c.raw.ensures.value
            ∙ sym (to_z-of_z w64 c.raw.result (search rules)) ∙ ap (to_z w64) w.if-raw-ne0.false))
      ],
    )

pub returns-clause-room : goal.returns-clause-room
returns-clause-room c =
    sums-room (length c.args.heights.now) c.args.strengths.now c.loop-k.k (length c.args.sums.now) c.loop-k.sums
    c.loop-k.invariant.1 (omega arith)
