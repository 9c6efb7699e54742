use Rattle.std.proofs.Common.{◌≤◌, ◌+◌, map, sum, arith}
use Rattle.std.proofs.lemmas.List.Elements.{All-from_recursion}
use Rattle.cs_tempo.specs.{declared.plot.Event.Event, Sections.sections_of, Sections.length_of, Limits.cycles_in}
use Rattle.cs_tempo.proofs.Climbs.{from_climbs, from_within, climb_far, sections_in_range}
use Rattle.cs_tempo.proofs.Shorts.{plot_short}
use Rattle.cs_tempo.proofs.laws.plots_are_in_order.Goals as goal

pub returns : goal.returns
returns c = record {
  order = λ head score r. climb_far 0 _ (from_climbs head 0 (sections_of score) (sections_in_range score r));
  within = λ head score r k d some. omega (
    arith,
    All-from_recursion (λ (e : Event). e.cycle + cycles_in e.act ≤ 0 + sum (map (length_of head) (sections_of score))) _
        (from_within head 0 (sections_of score) (sections_in_range score r)) k d some,
  );
  short = plot_short;
}
