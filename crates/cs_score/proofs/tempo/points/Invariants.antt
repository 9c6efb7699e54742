use Rattle.std.proofs.Common.{◌≡◌, ◌-◌, ◌++◌, drop, length, Ok, None}
use Rattle.cs_score.specs.{Carry.and_then, Statements.points_of}
use Rattle.cs_score.proofs.tempo.points.Given as goal

abbrev pub invariant-loop-at : goal.invariant-loop-at
invariant-loop-at l =
    points_of None l.fields ≡ and_then (points_of l.last (drop l.at l.fields)) (λ ps. Ok (l.points ++ ps))

abbrev pub decreases-loop-at : goal.decreases-loop-at
decreases-loop-at l = length l.fields - l.at
