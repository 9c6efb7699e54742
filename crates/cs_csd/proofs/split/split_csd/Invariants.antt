use Rattle.std.proofs.Common.{◌-◌, length}
use Rattle.cs_csd.proofs.Readings.{Read}
use Rattle.cs_csd.proofs.split.split_csd.Given as goal

abbrev pub invariant-loop-at : goal.invariant-loop-at
invariant-loop-at l = Read l.text l.state l.line l.at

abbrev pub decreases-loop-at : goal.decreases-loop-at
decreases-loop-at l = length l.text - l.at
