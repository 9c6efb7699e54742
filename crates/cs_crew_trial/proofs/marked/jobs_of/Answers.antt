use Rattle.std.proofs.Common.{◌+◌, length, refl, sym, ap, ◌∙◌, subst}
use Rattle.std.specs.List.{All}
use Rattle.std.proofs.lemmas.{List.Elements.All-push, List.length_push}
use Rattle.cs_cells.specs.Areas.{IsFootprint}
use Rattle.cs_crew_trial.specs.Marks.{IsOver, marking}
use Rattle.cs_crew_trial.proofs.marked.jobs_of.Goals as goal

pub loop-at-preserved : goal.loop-at-preserved
loop-at-preserved c =
    let P = IsOver marking c.args.layout.now in
    let items = c.in_ok-push.ensures.items in
    record {
      over = subst (All P) (sym items)
          (All-push P c.loop-at.jobs.items _ c.loop-at.invariant.over
          (refl, subst (λ n. IsFootprint n c.in_ok-foot_of.field-0) (sym c.requires) c.in_ok-foot_of.ensures));
      long = ap length items ∙ length_push c.loop-at.jobs.items _ ∙ ap (λ n. n + 1) c.loop-at.invariant.long;
    }
