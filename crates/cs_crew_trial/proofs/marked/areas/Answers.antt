use Rattle.std.proofs.Common.{◌+◌, length, subst, sym, refl, ap, ◌∙◌}
use Rattle.std.proofs.lemmas.List.{length_push}
use Rattle.cs_base.specs.declared.resource.Res.TheVariants.{Gk}
use Rattle.cs_cells.specs.declared.footprint.Area.{Area}
use Rattle.cs_crew_trial.proofs.Numbered.{Numbered, numbered_more}
use Rattle.cs_crew_trial.proofs.marked.areas.Goals as goal

pub loop-place-preserved : goal.loop-place-preserved
loop-place-preserved c =
    let n = c.loop-place.place in
    let area : Area = record { res = Gk n; first = n; length = 1 } in
    record {
      numbered = subst (λ xs. Numbered xs (n + 1)) (sym c.in_ok-push.ensures.items)
          (numbered_more c.loop-place.areas.items n n (n + 1) c.loop-place.invariant.long
          c.loop-place.invariant.numbered area refl refl refl);
      long = ap length c.in_ok-push.ensures.items ∙ length_push c.loop-place.areas.items area
          ∙ ap (λ k. k + 1) c.loop-place.invariant.long;
    }
