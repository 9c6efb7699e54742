use Rattle.std.proofs.Common.{◌≡◌, drop}
use Rattle.cs_life.specs.inner.Marks.{has_cells}
use Rattle.cs_life.proofs.tables.has_cells.Given as goal

abbrev pub invariant-loop-place : goal.invariant-loop-place
invariant-loop-place l = has_cells l.tables l.number ≡ has_cells (drop l.place l.tables) l.number
