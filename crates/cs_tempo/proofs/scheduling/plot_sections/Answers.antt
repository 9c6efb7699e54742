use Rattle.std.proofs.Common.{◌∙◌, sym, subst}
use Rattle.std.specs.List.Sorted.{IsNonDecreasingBy}
use Rattle.cs_tempo.specs.{Sections.sections_of, declared.plot.Event.Event}
use Rattle.cs_tempo.proofs.Climbs.{from_climbs, climb_far, sections_in_range}
use Rattle.cs_tempo.proofs.scheduling.plot_sections.Goals as goal

pub note_hit-requires : goal.note_hit-requires
note_hit-requires c =
    subst (IsNonDecreasingBy (λ (e : Event). e.cycle)) (sym (c.deref.ensures.value ∙ c.in_ok-events.ensures))
    (climb_far 0 _ (from_climbs c.args.head.now 0 (sections_of c.args.score.now)
    (sections_in_range c.args.score.now c.requires)))
