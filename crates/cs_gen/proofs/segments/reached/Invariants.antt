use Rattle.std.proofs.Common.{◌-◌}
use Rattle.cs_gen.specs.{Faults.segments_of, inner.Walk.HasPassed}
use Rattle.cs_gen.proofs.segments.reached.Given as goal

abbrev pub invariant-loop-walk : goal.invariant-loop-walk
invariant-loop-walk l = HasPassed l.args l.j l.walk.segment l.walk.begin

abbrev pub decreases-loop-walk : goal.decreases-loop-walk
decreases-loop-walk l = segments_of l.args - l.walk.segment
