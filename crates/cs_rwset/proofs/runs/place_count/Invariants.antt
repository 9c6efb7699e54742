use Rattle.std.proofs.Common.{◌≡◌, ◌≤◌, take}
use Rattle.cs_rwset.specs.Footprints.{place_count}
use Rattle.cs_rwset.proofs.runs.place_count.Given as goal

abbrev pub invariant-loop-place : goal.invariant-loop-place
invariant-loop-place l = (l.count ≡ place_count (take l.place l.layout) l.space) × (l.count ≤ l.place)
