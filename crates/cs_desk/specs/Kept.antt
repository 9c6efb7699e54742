-- What a desk keeps from cycle to cycle: the table, the layout and the cells, and the plan of a cycle on
-- them.
use Rattle.std.specs.Prelude.{ℕ, ℤ, ◌-◌, List, length, Option, Some, None}
use Rattle.std.specs.Global.{Vec}
use Rattle.atomic_table.specs.Seated.{TableId}
use Rattle.cs_board.specs.{Resting.wide, declared.view.Plan.Plan}
use Rattle.cs_cells.specs.{Access.Access, Access.full_access, Areas.word_count, Cells.Cells}
use Rattle.cs_cells.specs.declared.footprint.Area.{Area}
use Rattle.cs_graph.specs.Graph.{Dependencies}

-- the identity of the table, and the layout of its cells
pub record Standing : Type 0 where
  pub table : TableId
  pub areas : List Area

-- every cell of the layout may be read and set
abbrev pub access_of : Standing → Access
access_of standing = full_access (word_count standing.areas)

-- the cells in plain memory, or `laid` if there are none
abbrev pub cells_now : Option (Vec ℤ) → Cells → Cells
cells_now None laid = laid
cells_now (Some numbers) laid = numbers.items

module _ {J : Type 0} where
  -- the plan of a cycle of these jobs, on these cells, with `words` words on the board
  abbrev pub plan_of : List Area → Cells → ℕ → Dependencies → List J → Plan J
  plan_of areas cells words graph jobs = record {
    notes = length jobs;
    edges = graph.edges;
    areas = areas;
    jobs = jobs;
    cells = cells;
    spare = words - wide areas (length jobs) (length graph.edges);
  }
