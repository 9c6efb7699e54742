-- The rows that are reused from cycle to cycle, and the notes with which they can be filled.
use Rattle.std.specs.{Prelude.◌≡◌, Prelude.◌≤◌, Prelude.ℕ, Prelude.List, Prelude.length, List.All, Vec.vec_capacity}
use Rattle.cs_cells.specs.Meaning.{Meaning}
use Rattle.cs_row.specs.{Cuts.AreFilling, Rooms.IsWide, declared.rows.Rows.Rows}
use Rattle.cs_cells.specs.declared.job.Job as job
use Rattle.cs_row.specs.declared.heard.Heard as heard

module _ {J G : Type 0} {h : heard.Ghosts J} {g : job.Ghosts J} where
  -- the number of notes of each row
  abbrev pub cuts : Rows J G h g → List ℕ
  cuts rows = rows.cuts.items

  -- both have the same cuts, the same highest number of notes and the same length of a block
  pub record CutAlike (rows other : Rows J G h g) : Type 0 where
    pub block : rows.block ≡ other.block
    pub most : rows.most ≡ other.most
    pub lengths : cuts rows ≡ cuts other

  -- there is memory for each row that was cut, for as many notes as a row may have
  pub record HasMemory (rows : Rows J G h g) : Type 0 where
    pub enough : length (cuts rows) ≤ length rows.rooms.items
    pub places : length (cuts rows) ≤ vec_capacity rows.rows
    pub wide : All (IsWide rows.most) rows.rooms.items

  -- these notes can be cut the way that the rows were cut
  abbrev pub IsFillable : (M : Meaning J) → (J → ℕ × ℕ) → Rows J G h g → List J → Type 0
  IsFillable M shape rows notes = AreFilling M rows.most shape rows.block (cuts rows) notes
