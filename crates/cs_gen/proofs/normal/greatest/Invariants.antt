use Rattle.std.proofs.Common.{◌≡◌, ◌≤◌, ◌^◌, take}
use Rattle.cs_gen.specs.Points.{greatest}
use Rattle.cs_gen.proofs.normal.greatest.Given as goal

abbrev pub invariant-loop-point : goal.invariant-loop-point
invariant-loop-point l = (l.most ≡ greatest (take l.point-index l.points)) × (l.most ≤ 2 ^ 47)
