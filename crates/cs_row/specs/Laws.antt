-- What the run of rows means for their jobs.
use Rattle.std.specs.Prelude.{◌≡◌, ◌<◌, ℕ, ℤ, List, length, map}
use Rattle.std.specs.List.{All}
use Rattle.cs_cells.specs.{Cells.Cells, Meaning.Meaning, Serial.serial_cells, Serial.serial_jobs}
use Rattle.cs_graph.specs.Conflict.{Conflict}
use Rattle.cs_row.specs.{Heard.HeardRow, Heard.heard_job, Heard.sums, Rows.notes_in, Rows.row_at, Rows.row_foot}

module _ {J : Type 0} where
  -- the jobs of rows, without the sums
  abbrev pub jobs_of : List (HeardRow J) → List (List J)
  jobs_of rows = map (λ (r : HeardRow J). r.jobs) rows

  -- the jobs of all rows, in order
  abbrev pub all_notes : List (HeardRow J) → List J
  all_notes rows = notes_in (jobs_of rows)

module _ {J : Type 0} (M : Meaning J) where
  -- two jobs conflict if and only if their rows do; so no job conflicts with another one of its row
  pub record ConflictByRow (rows : List (List J)) (p t : ℕ) : Type 0 where
    pub rows_do : Conflict (map M.foot (notes_in rows)) p t
        → Conflict (map (row_foot M) rows) (row_at rows p) (row_at rows t)
    pub notes_do : t < length (notes_in rows)
        → Conflict (map (row_foot M) rows) (row_at rows p) (row_at rows t)
        → Conflict (map M.foot (notes_in rows)) p t

  -- the serial run of rows is the serial run of their jobs, and the sums are the sums of what the jobs
  -- produce afterwards
  pub record RunsAsNotes (shape : J → ℕ × ℕ) (gives : J → ℕ → ℤ) (rows : List (HeardRow J)) (c : Cells) : Type
      0 where
    pub jobs : all_notes (serial_jobs (heard_job M shape gives) rows c) ≡ serial_jobs M (all_notes rows) c
    pub cells : serial_cells (heard_job M shape gives) rows c ≡ serial_cells M (all_notes rows) c
    -- each row keeps its number of jobs, and of values in its sum
    pub lengths : map length (jobs_of (serial_jobs (heard_job M shape gives) rows c)) ≡ map length (jobs_of rows)
    pub blocks : map (λ r. length r.sum) (serial_jobs (heard_job M shape gives) rows c) ≡ map (λ r. length r.sum) rows
    pub summed : All (λ r. r.sum ≡ sums gives (length r.sum) r.jobs) (serial_jobs (heard_job M shape gives) rows c)
