use Rattle.std.proofs.Common.{◌∙◌, ◌++◌, ◌∷◌, [], ap, rules, w64}
use Rattle.std.proofs.lemmas.Int.{to_z-of_z}
use Rattle.cs_gen.proofs.HarmonicSums.{heights-more, is_low}
use Rattle.cs_gen.proofs.harmonics.heights_of.Goals as goal

pub loop-place-preserved : goal.loop-place-preserved
loop-place-preserved c =
    let fits = to_z-of_z w64 c.wave.result (search rules) in
    heights-more c.args.len c.loop-place.place c.loop-place.heights.items _ c.wave.result c.loop-place.invariant
    (c.in_ok-push.ensures.items ∙ ap (λ z. c.loop-place.heights.items ++ z ∷ []) fits) c.wave.ensures.value
    (is_low c.wave.result c.wave.ensures.above c.wave.ensures.below)
