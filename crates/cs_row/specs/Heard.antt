-- Rows of jobs together with the sum of what the jobs produce.
use Rattle.std.specs.Prelude.{◌≡◌, ◌≤◌, ◌*◌, ◌≤ℤ◌, ℕ, ℤ, pos, neg_ℤ, List, length, map, slice_index_or}
use Rattle.std.specs.List.{All, range_with_len}
use Rattle.cs_base.specs.{Limits.most_notes, Numbers.total}
use Rattle.cs_cells.specs.{Cells.Cells, Meaning.Meaning, Serial.serial_cells, Serial.serial_jobs}
use Rattle.cs_row.specs.Rows.{IsRow, row_areas, row_foot}

-- z can be the sum of n numbers of the profile
pub record IsSumOf (n : ℕ) (z : ℤ) : Type 0 where
  pub low : neg_ℤ (pos (n * 140737488355328)) ≤ℤ z
  pub high : z ≤ℤ pos (n * 140737488355328)

-- each value of the block can be the sum of n numbers of the profile
abbrev pub AreSumsOf : ℕ → List ℤ → Type 0
AreSumsOf n block = (at : ℕ) → IsSumOf n (slice_index_or block at (pos 0))

-- the jobs of a row, and a number for each index of a block
pub record HeardRow (J : Type 0) : Type 0 where
  pub jobs : List J
  pub sum : List ℤ

module _ {J : Type 0} (gives : J → ℕ → ℤ) where
  -- the sum of what jobs produce at one index: the plain sum, without bounds
  abbrev pub sum_at : List J → ℕ → ℤ
  sum_at js at = total (map (λ j. gives j at) js)

  -- the sum at each index of a block of length n
  abbrev pub sums : ℕ → List J → List ℤ
  sums n js = map (sum_at js) (range_with_len 0 n)

  -- these jobs with the sum of what they produce
  abbrev pub with_sums : ℕ → List J → HeardRow J
  with_sums n js = record { jobs = js; sum = sums n js }

-- a run doesn't change the shape of a job
abbrev pub KeepsShape : {J : Type 0} → Meaning J → (J → ℕ × ℕ) → Type 0
KeepsShape {J} M shape = (j : J) (c : Cells) → shape (M.after j c) ≡ shape j

module _ {J : Type 0} (M : Meaning J) (shape : J → ℕ × ℕ) where
  -- at most 512 jobs of a row, all of one shape; the block has a number for each frame and channel
  pub record IsHeardRow (r : HeardRow J) : Type 0 where
    pub row : IsRow M r.jobs
    pub few : length r.jobs ≤ most_notes
    pub frames : ℕ
    pub channels : ℕ
    pub alike : All (λ j. shape j ≡ (frames, channels)) r.jobs
    pub long : length r.sum ≡ frames * channels

  -- a row as a job: its jobs run in order, and what they produce is added up
  abbrev pub heard_job : (J → ℕ → ℤ) → Meaning (HeardRow J)
  heard_job gives = record {
    areas = λ r. row_areas M r.jobs;
    foot = λ r. row_foot M r.jobs;
    after = λ r c. with_sums gives (length r.sum) (serial_jobs M r.jobs c);
    leaves = λ r c. serial_cells M r.jobs c;
    valid = IsHeardRow;
  }
