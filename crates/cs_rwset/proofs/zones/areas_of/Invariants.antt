use Rattle.std.proofs.Common.{◌≡◌, ◌+◌, ◌++◌, drop, take}
use Rattle.cs_cells.specs.Areas.{word_count}
use Rattle.cs_rwset.specs.inner.Zoning.{zones_from, zones_of}
use Rattle.cs_rwset.proofs.zones.areas_of.Given as goal

abbrev pub invariant-loop-place : goal.invariant-loop-place
invariant-loop-place l =
    (l.zones.items ++ zones_from l.zone (drop l.place l.layout) (drop l.place l.begins) ≡ zones_of l.layout l.begins)
    × (l.zone.first + l.zone.length ≡ word_count (take l.place l.layout))
