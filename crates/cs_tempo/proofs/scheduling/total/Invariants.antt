use Rattle.std.proofs.Common.{◌≡◌, ◌+◌, ◌≤◌, ◌*◌, ◌^◌, map, sum, length}
use Rattle.std.specs.List.{All}
use Rattle.cs_score.specs.Ranges.{IsInRange}
use Rattle.cs_tempo.specs.Sections.{length_of, sections_of}
use Rattle.cs_tempo.proofs.scheduling.total.Given as goal

abbrev pub invariant-loop-total : goal.invariant-loop-total
invariant-loop-total l = record {
  sum : l.total + sum (map (length_of l.head) (sections_of l.left))
      ≡ sum (map (length_of l.head) (sections_of l.score));
  small : l.total + 2 ^ 47 * length l.left ≤ 2 ^ 47 * length l.score;
  range : All IsInRange l.left;
}

abbrev pub decreases-loop-total : goal.decreases-loop-total
decreases-loop-total l = length l.left
