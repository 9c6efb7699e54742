use Rattle.std.proofs.Common.{◌≤◌}
use Rattle.cs_rwset.specs.inner.Zoning.{AreBegins}
use Rattle.cs_rwset.proofs.zones.begins_of.Given as goal

abbrev pub invariant-loop-place : goal.invariant-loop-place
invariant-loop-place l = AreBegins l.place l.outside l.each l.begins.items × (l.place ≤ l.areas)
