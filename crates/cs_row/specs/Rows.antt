-- Rows of consecutive jobs that touch the same resources; each row is run as one job.
use Rattle.std.specs.Prelude.{◌≡◌, ◌<◌, ◌-◌, ℕ, suc, List, [], ◌∷◌, length, nat_lt, if◌then◌else◌}
use Rattle.std.specs.List.{All, flat_map}
use Rattle.cs_cells.specs.{Meaning.Meaning, declared.footprint.Area.Area, declared.footprint.Footprint.Footprint}
use Rattle.cs_cells.specs.Serial.{serial_cells, serial_jobs}

-- a footprint that touches nothing
abbrev pub no_foot : Footprint
no_foot = record { uses = []; writes = [] }

module _ {J : Type 0} where
  -- the jobs of all rows, in order
  abbrev pub notes_in : List (List J) → List J
  notes_in rows = flat_map (λ row. row) rows

  -- the index of the row that contains job t
  abbrev pub row_at : List (List J) → ℕ → ℕ
  row_at [] t = 0
  row_at (row ∷ rows) t = if nat_lt t (length row) then 0 else suc (row_at rows (t - length row))

module _ {J : Type 0} (M : Meaning J) where
  -- a row has the layout and the footprint of its first job
  abbrev pub row_areas : List J → List Area
  row_areas [] = []
  row_areas (j ∷ js) = M.areas j

  -- the footprint of a row's first job
  abbrev pub row_foot : List J → Footprint
  row_foot [] = no_foot
  row_foot (j ∷ js) = M.foot j

  -- a job that code holds, with this layout and this footprint
  pub record Touches (areas : List Area) (foot : Footprint) (j : J) : Type 0 where
    pub areas_are : M.areas j ≡ areas
    pub foot_is : M.foot j ≡ foot
    pub valid : M.valid j

  -- one or more jobs that touch the same resources
  pub record IsRow (js : List J) : Type 0 where
    pub some : 0 < length js
    pub alike : All (Touches (row_areas js) (row_foot js)) js

  -- a row as a job: its jobs run in order
  abbrev pub row_job : Meaning (List J)
  row_job = record {
    areas = row_areas;
    foot = row_foot;
    after = serial_jobs M;
    leaves = serial_cells M;
    valid = IsRow;
  }

  -- a row of several jobs writes nothing, so none of them conflicts with another
  abbrev pub IsFree : List J → Type 0
  IsFree row = 1 < length row → (row_foot row).writes ≡ []
