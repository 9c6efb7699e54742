use Rattle.std.proofs.Common.{◌≡◌, ◌≤◌, ◌++◌, drop, length}
use Rattle.cs_rwset.specs.inner.Zoning.{heads}
use Rattle.cs_rwset.proofs.zones.heads_of.Given as goal

abbrev pub invariant-loop-place : goal.invariant-loop-place
invariant-loop-place l =
    (l.heads.items ++ heads (drop l.place l.marks) (drop l.place l.begins) ≡ heads l.marks l.begins)
    × (length l.heads.items ≤ l.place)
