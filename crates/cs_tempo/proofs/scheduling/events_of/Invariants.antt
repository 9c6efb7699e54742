use Rattle.std.proofs.Common.{◌≡◌, ◌+◌, ◌≤◌, ◌++◌, ◌^◌, map, sum, length}
use Rattle.std.specs.List.{All}
use Rattle.cs_score.specs.Ranges.{IsInRange}
use Rattle.cs_tempo.specs.{Plot.events_from, Sections.length_of, Sections.sections_of}
use Rattle.cs_tempo.proofs.scheduling.events_of.Given as goal

abbrev pub invariant-loop-events : goal.invariant-loop-events
invariant-loop-events l = record {
  events : l.events.items ++ events_from l.head l.offset (sections_of l.left)
      ≡ events_from l.head 0 (sections_of l.score);
  short : l.offset + sum (map (length_of l.head) (sections_of l.left)) ≤ 2 ^ 30;
  range : All IsInRange l.left;
}

abbrev pub decreases-loop-events : goal.decreases-loop-events
decreases-loop-events l = length l.left
