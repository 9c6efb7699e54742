use Rattle.std.proofs.Common.{◌≡◌, map}
use Rattle.std.specs.List.{range_with_len}
use Rattle.cs_gen.specs.Faults.{argument}
use Rattle.cs_gen.proofs.table.argument_points.Given as goal

abbrev pub invariant-loop-j : goal.invariant-loop-j
invariant-loop-j l = l.points.items ≡ map (argument l.args) (range_with_len 0 l.j)
