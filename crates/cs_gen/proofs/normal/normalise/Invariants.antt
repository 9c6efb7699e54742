use Rattle.std.proofs.Common.{◌≡◌, ◌≤◌, ◌^◌, ◌++◌, take, drop, map}
use Rattle.cs_gen.specs.Points.{greatest, normalised}
use Rattle.cs_gen.proofs.normal.normalise.Given as goal

abbrev pub invariant-loop-point : goal.invariant-loop-point
invariant-loop-point l =
    (l.most ≡ greatest l.initial.points) × (l.most ≤ 2 ^ 47)
    × (l.points ≡ map (normalised l.most) (take l.point-index l.initial.points) ++ drop l.point-index l.initial.points)
