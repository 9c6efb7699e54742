use Rattle.std.proofs.Common.{length, sym, ◌∙◌, subst}
use Rattle.std.specs.List.{All}
use Rattle.cs_cells.specs.Areas.{IsFootprint}
use Rattle.cs_crew_trial.proofs.cycle.desk_for.Goals as goal

pub returns-in-Ok-new-2-clause-over : goal.returns-in-Ok-new-2-clause-over
returns-in-Ok-new-2-clause-over g c = λ k d l. (c.requires.over k d l).0 ∙ sym c.in-Ok-new-2.ensures.areas

pub returns-in-Ok-new-2-clause-footprints : goal.returns-in-Ok-new-2-clause-footprints
returns-in-Ok-new-2-clause-footprints g c =
    subst (λ a. All (λ j. IsFootprint (length a) (g.J.Job.means.foot j)) c.args.jobs.now)
    (sym c.in-Ok-new-2.ensures.areas) (λ k d l. (c.requires.over k d l).1)
