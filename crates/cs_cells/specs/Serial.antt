use Rattle.std.specs.Prelude.{◌≡◌, ℕ, zero, suc, ◌<◌, ◌≤◌, List, [], ◌∷◌, slice_get, Some}
use Rattle.cs_cells.specs.{Cells.Cells, Cells.cell, Cells.Agree, Meaning.Meaning, Meaning.Uses, Meaning.Writes}

module _ {J : Type 0} (M : Meaning J) where
  -- the cells after all jobs have run in order
  abbrev pub serial_cells : List J → Cells → Cells
  serial_cells [] c = c
  serial_cells (j ∷ js) c = serial_cells js (M.leaves j c)

  -- the jobs after they have run in order, each on the cells that its predecessors left
  abbrev pub serial_jobs : List J → Cells → List J
  serial_jobs [] c = []
  serial_jobs (j ∷ js) c = M.after j c ∷ serial_jobs js (M.leaves j c)

  -- the cells after the first t jobs
  abbrev pub before : List J → Cells → ℕ → Cells
  before js c zero = c
  before [] c (suc t) = c
  before (j ∷ js) c (suc t) = before js (M.leaves j c) t

  -- the cells after job t
  abbrev pub after : List J → Cells → ℕ → Cells
  after js c t = before js c (suc t)

  -- each of the jobs has the property of jobs in the code
  abbrev pub AllValid : List J → Type 0
  AllValid js = (t : ℕ) (j : J) → slice_get js t ≡ Some j → M.valid j

  -- no job from index p up to but excluding t writes the cell
  abbrev pub IsQuiet : List J → ℕ → ℕ → ℕ → Type 0
  IsQuiet js p t a = (q : ℕ) (j : J) → p ≤ q → q < t → slice_get js q ≡ Some j → ¬ (Writes M j a)

  -- The first law: before a job, a cell has the value that it had after the last earlier job that writes it,
  -- or its initial value if there is none.
  pub record LastWriter (js : List J) (c : Cells) : Type 0 where
    pub written : (p t a : ℕ) → p < t → IsQuiet js (suc p) t a → cell (before js c t) a ≡ cell (after js c p) a
    pub opening : (t a : ℕ) → IsQuiet js 0 t a → cell (before js c t) a ≡ cell c a

  -- The second law: if job t runs on cells that agree with the serial run's wherever the job uses them, it
  -- ends in the same state as in the serial run and leaves the same values in those cells.
  pub record AsSerial (js : List J) (c : Cells) (t : ℕ) (j : J) (d : Cells) : Type 0 where
    pub job : slice_get (serial_jobs js c) t ≡ Some (M.after j d)
    pub cells : Agree (Uses M j) (M.leaves j d) (after js c t)
