use Rattle.std.proofs.Common.{◌∙◌, ap, sym, subst, get_or}
use Rattle.cs_tempo.specs.Sections.{length_of}
use Rattle.cs_time.specs.Time.{IsTempo}
use Rattle.cs_tempo.proofs.Climbs.{tempo_in_range, reach_all, reach_moved}
use Rattle.cs_tempo.proofs.scheduling.section_events.Goals as goal

pub new-requires : goal.new-requires
new-requires c = subst IsTempo (sym c.tempo_of.ensures) (tempo_in_range c.args.section.now c.requires.range)

pub add_section-requires-clause-reach : goal.add_section-requires-clause-reach
add_section-requires-clause-reach c = λ k d some.
    reach_moved _ c.args.head.now _ _ _ _ (get_or c.args.section.now k d).what c.in_ok-clock.ensures.head
    (c.in_ok-clock.ensures.tempo ∙ c.tempo_of.ensures)
    (c.length_of-cycles.ensures.length ∙ ap (λ h. length_of h c.args.section.now) c.in_ok-clock.ensures.head)
    (reach_all c.args.head.now c.args.section.now k d some)
