-- How jobs are cut into rows. M is what jobs mean, `most` the highest number of jobs in a row.
use Rattle.std.specs.Prelude.{◌≡◌, ◌≤◌, ◌*◌, ℕ, List, length, map}
use Rattle.std.specs.List.{All}
use Rattle.cs_base.specs.Limits.{most_notes}
use Rattle.cs_cells.specs.Meaning.{Meaning}
use Rattle.cs_row.specs.Rows.{IsFree, IsRow, notes_in}

module _ {J : Type 0} (M : Meaning J) (most : ℕ) where
  -- Rows that have these jobs in order, each with at most `most` jobs. Rows of several jobs write nothing.
  pub record AreRowsOf (js : List J) (rows : List (List J)) : Type 0 where
    pub whole : notes_in rows ≡ js
    pub are : All (IsRow M) rows
    pub free : All (IsFree M) rows
    pub few : All (λ row. length row ≤ most) rows

  -- the jobs can be cut into rows with these numbers of jobs
  pub record IsCut (js : List J) (cuts : List ℕ) : Type 0 where
    pub rows : List (List J)
    pub of : AreRowsOf js rows
    pub lengths : map length rows ≡ cuts

  -- these notes, all of one shape, can be cut into rows with these numbers of notes, each with a block of
  -- `block` values
  pub record AreFilling (shape : J → ℕ × ℕ) (block : ℕ) (cuts : List ℕ) (notes : List J) : Type 0 where
    pub cut : IsCut notes cuts
    pub few : length notes ≤ most_notes
    pub frames : ℕ
    pub channels : ℕ
    pub alike : All (λ j. shape j ≡ (frames, channels)) notes
    pub size : block ≡ frames * channels
