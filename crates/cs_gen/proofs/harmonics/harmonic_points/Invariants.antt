use Rattle.std.proofs.Common.{◌≡◌, map, take}
use Rattle.cs_base.specs.Numbers.{clamp}
use Rattle.cs_gen.proofs.harmonics.harmonic_points.Given as goal

abbrev pub invariant-loop-sum : goal.invariant-loop-sum
invariant-loop-sum l = l.points.items ≡ map clamp (take l.sum-index l.sum-items)
