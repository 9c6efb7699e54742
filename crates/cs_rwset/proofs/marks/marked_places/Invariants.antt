use Rattle.std.proofs.Common.{◌≡◌}
use Rattle.cs_rwset.proofs.Marking.{marked_below}
use Rattle.cs_rwset.proofs.marks.marked_places.Given as goal

abbrev pub invariant-loop-place : goal.invariant-loop-place
invariant-loop-place l = l.places ≡ marked_below l.marks l.place
