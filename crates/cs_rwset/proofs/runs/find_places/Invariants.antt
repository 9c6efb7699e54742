use Rattle.cs_rwset.specs.inner.Runs.{AreInOrder}
use Rattle.cs_rwset.proofs.runs.find_places.Given as goal

abbrev pub invariant-loop-number : goal.invariant-loop-number
invariant-loop-number l = AreInOrder l.layout l.space l.number l.begin
