-- Flags of tables by the number of a table, and whether the points of a number's table are cells.
use Rattle.std.specs.Prelude.{ℕ, ℤ, ◌≡◌, ◌==◌, ◌||◌, Bool, true, false, not, List, [], ◌∷◌, length, Option, Some, None}
use Rattle.std.specs.{Prelude.if◌then◌else◌, Option.is_some}
use Rattle.cs_machine.specs.Access.{row_wave}
use Rattle.cs_cells.specs.{Cells.Cells, Cells.cell, declared.footprint.Area.Area}
use Rattle.cs_meaning.specs.Plain.{Table}
use Rattle.cs_voice_meaning.specs.Placing.{area_of, with_wave}
use Rattle.cs_voice.specs.declared.stage.PieceTable.{PieceTable}
use Rattle.cs_base.specs.declared.resource.Res.TheVariants as res

-- each of these tables that has the number is marked as made; further flags stay as they are
abbrev pub marked : ℕ → List PieceTable → List Bool → List Bool
marked number [] flags = flags
marked number (t ∷ tables) [] = []
marked number (t ∷ tables) (flag ∷ flags) = ((number == t.number) || flag) ∷ marked number tables flags

-- whether there is a table with the number and the points of the first one are cells
abbrev pub has_cells : List PieceTable → ℕ → Bool
has_cells [] number = false
has_cells (t ∷ tables) number = if t.number == number then not (is_some t.points) else has_cells tables number

-- whether the points of a table are cells
abbrev pub is_in_cells : Option Table → Bool
is_in_cells None = false
is_in_cells (Some t) = not (is_some t.frozen)

-- the cells after points were written: if a table's points are cells, these are the points, and all other
-- cells stay as they are
abbrev pub PointsWritten : Bool → List Area → ℕ → List ℤ → Cells → Cells → Type 0
PointsWritten false areas number points cells new = new ≡ cells
PointsWritten true areas number points cells new =
    (a : Area) × (area_of areas (res.Table number) ≡ Some a) × (length points ≡ a.length)
    × (cell new ≡ with_wave (Some a) (row_wave points) (cell cells))
