-- The place of a unit's table.
use Rattle.std.specs.Prelude.{ℤ, List, Option, Some, None}
use Rattle.cs_cells.specs.declared.footprint.Area.{Area}
use Rattle.cs_machine.specs.declared.player.Reads.{Reads}
use Rattle.cs_machine.specs.declared.player.Reads.TheVariants as reads

-- the points of a frozen table
abbrev pub points_in : Reads → Option (List ℤ)
points_in reads.Nothing = None
points_in (reads.Frozen curve) = Some curve.points.now
points_in (reads.Live area) = None

-- the area of a live table
abbrev pub area_in : Reads → Option Area
area_in reads.Nothing = None
area_in (reads.Frozen curve) = None
area_in (reads.Live area) = Some area
