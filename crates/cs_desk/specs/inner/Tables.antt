-- A table at rest: the layout, the cells in its words, and how much room there is.
use Rattle.std.specs.Prelude.{◌≤◌, ℕ, List}
use Rattle.cs_board.specs.{Resting.areas_in, Resting.known_in, Resting.wide, Views.cells_laid, declared.view.Plan.Plan}
use Rattle.cs_cells.specs.{Cells.Cells, Cells.values, declared.footprint.Area.Area}
use Rattle.cs_desk.specs.{Kept.Standing, Kept.plan_of, declared.resting.RestingTable.RestingTable}
use Rattle.cs_graph.specs.Graph.{Dependencies}

module _ {J : Type 0} where
  -- the layout of the cells
  abbrev pub layout_of : RestingTable J → List Area
  layout_of table = areas_in table.seat

  -- the values of the cells in the table's words
  abbrev pub cells_in : RestingTable J → Cells
  cells_in table = values (cells_laid (layout_of table) (known_in table.seat))

  -- how many slots the table has
  abbrev pub slots_in : RestingTable J → ℕ
  slots_in table = table.table.shared.table_id.slots

  -- how many words the table has
  abbrev pub words_in : RestingTable J → ℕ
  words_in table = table.table.shared.table_id.words

  -- what stays the same when cells are read or set
  abbrev pub standing_of : RestingTable J → Standing
  standing_of table = record { table = table.table.shared.table_id; areas = layout_of table }

  -- there is room for a cycle of n notes and m edges
  pub record HasSpace (table : RestingTable J) (n m : ℕ) : Type 0 where
    pub notes : n ≤ slots_in table
    pub words : wide (layout_of table) n m ≤ words_in table

  -- the plan of a cycle of these jobs, on the cells of the table
  abbrev pub plan_at : RestingTable J → Dependencies → List J → Plan J
  plan_at table graph jobs = plan_of (layout_of table) (cells_in table) (words_in table) graph jobs
