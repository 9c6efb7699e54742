use Rattle.std.proofs.Common.{◌∙◌, ap, sym, ◌+◌, arith}
use Rattle.std.proofs.lemmas.List.{take_all}
use Rattle.cs_rwset.specs.Footprints.{place_count}
use Rattle.cs_rwset.proofs.Marking.{counted, not_counted}
use Rattle.cs_rwset.proofs.runs.place_count.Goals.{then-is_place, else-is_place}
use Rattle.cs_rwset.proofs.runs.place_count.Goals as goal

pub loop-place-preserved : goal.loop-place-preserved
loop-place-preserved c = elim c.if-is_place.branch [
  | then-is_place w ↦ (
    w.count-is ∙ ap (λ n. n + 1) c.loop-place.invariant.0
        ∙ sym (counted c.args.layout.now c.args.space c.loop-place.place c.area.result c.area.ensures
        (sym c.is_place.ensures ∙ w.if-is_place.true)),
    omega (arith, w.count-is, c.loop-place.invariant.1),
  )
  | else-is_place w ↦ (
    w.count-is ∙ c.loop-place.invariant.0
        ∙ sym (not_counted c.args.layout.now c.args.space c.loop-place.place c.area.result c.area.ensures
        (sym c.is_place.ensures ∙ w.if-is_place.false)),
    omega (arith, w.count-is, c.loop-place.invariant.1),
  )
]

pub returns : goal.returns
returns c =
    c.loop-place.invariant.0 ∙ ap (λ l. place_count l c.args.space)
    (take_all c.loop-place.place c.args.layout.now (omega (arith, c.loop-place-test.false, c.len-place-end.ensures)))
