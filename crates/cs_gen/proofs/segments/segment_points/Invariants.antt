use Rattle.std.proofs.Common.{◌≡◌, map}
use Rattle.std.specs.List.{range_with_len}
use Rattle.cs_gen.specs.{Points.segments, inner.Walk.HasPassed}
use Rattle.cs_gen.proofs.segments.segment_points.Given as goal

abbrev pub invariant-loop-j : goal.invariant-loop-j
invariant-loop-j l = (l.points.items ≡ map (segments l.args) (range_with_len 0 l.j))
    × HasPassed l.args l.j l.walk.segment l.walk.begin
