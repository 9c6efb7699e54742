-- The state between two cycles: the cells, the layout, and how much room there is.
use Rattle.std.specs.Prelude.{◌≤◌, ℕ, List}
use Rattle.cs_desk.specs.{Kept.cells_now, Kept.plan_of, declared.desk.Desk.Desk}
use Rattle.cs_board.specs.{Resting.areas_in, Resting.known_in, Resting.wide, Views.cells_laid, declared.view.Plan.Plan}
use Rattle.cs_cells.specs.{Cells.Cells, Cells.values, declared.footprint.Area.Area}
use Rattle.cs_graph.specs.Graph.{Dependencies}
pub use Rattle.cs_desk.specs.Kept.{Standing, access_of}

module _ {J : Type 0} where
  -- the layout of the cells
  abbrev pub areas : Desk J → List Area
  areas desk = areas_in desk.resting.seat

  -- what stays the same when cells are read or set
  abbrev pub standing : Desk J → Standing
  standing desk = record { table = desk.resting.table.shared.table_id; areas = areas desk }

  -- the value of each cell, by address
  abbrev pub cells : Desk J → Cells
  cells desk = cells_now desk.plain (values (cells_laid (areas desk) (known_in desk.resting.seat)))

  -- how many notes a cycle may have
  abbrev pub note_room : Desk J → ℕ
  note_room desk = desk.resting.table.shared.table_id.slots

  -- how many words the table has
  abbrev pub word_room : Desk J → ℕ
  word_room desk = desk.resting.table.shared.table_id.words

  -- there is room for a cycle of n notes and m edges
  pub record HasRoom (desk : Desk J) (n m : ℕ) : Type 0 where
    pub notes : n ≤ note_room desk
    pub words : wide (areas desk) n m ≤ word_room desk

  -- the plan of a cycle of these jobs, on the cells of the desk
  abbrev pub plan_from : Desk J → Dependencies → List J → Plan J
  plan_from desk graph jobs = plan_of (areas desk) (cells desk) (word_room desk) graph jobs
