-- The serial run of rows is the serial run of their notes.
use Rattle.std.proofs.Common.{arith, ◌≡◌, ℕ, ℤ, List, [], ◌∷◌, ◌++◌, length, map, ◌+ℤ◌, refl, sym, ap, ◌∙◌}
use Rattle.std.proofs.lemmas.{Grind.common_steps, List.Elements.All-nil, List.map-append}
use Rattle.std.specs.List.{All}
use Rattle.std.proofs.Math.IntN.{+ℤ_assoc, +ℤ_idl}
use Rattle.std.proofs.lemmas.List.FromFn.{length-map-range_with_len}
use Rattle.cs_base.specs.Numbers.{total}
use Rattle.cs_cells.specs.{Cells.Cells, Meaning.Meaning, Serial.serial_cells, Serial.serial_jobs}
use Rattle.cs_cells.proofs.SerialRun.{length-serial_jobs}
use Rattle.cs_row.specs.Heard.{HeardRow, heard_job, sum_at, sums}
use Rattle.cs_row.specs.{Laws.RunsAsNotes, Laws.all_notes, Laws.jobs_of, Rows.notes_in}

module _ {J : Type 0} (M : Meaning J) where
  -- the serial run of two joined lists
  pub cells_both : (xs ys : List J) (c : Cells)
      → serial_cells M (xs ++ ys) c ≡ serial_cells M ys (serial_cells M xs c)
  cells_both [] ys c = refl
  cells_both (x ∷ xs) ys c = cells_both xs ys (M.leaves x c)

  pub jobs_both : (xs ys : List J) (c : Cells)
      → serial_jobs M (xs ++ ys) c ≡ serial_jobs M xs c ++ serial_jobs M ys (serial_cells M xs c)
  jobs_both [] ys c = refl
  jobs_both (x ∷ xs) ys c = ap (λ (zs : List J). M.after x c ∷ zs) (jobs_both xs ys (M.leaves x c))

  module _ (shape : J → ℕ × ℕ) (gives : J → ℕ → ℤ) where
    cells_run : (rows : List (HeardRow J)) (c : Cells)
        → serial_cells (heard_job M shape gives) rows c ≡ serial_cells M (all_notes rows) c
    cells_run [] c = refl
    cells_run (r ∷ rows) c =
        cells_run rows (serial_cells M r.jobs c) ∙ sym (cells_both r.jobs (all_notes rows) c)

    jobs_run : (rows : List (HeardRow J)) (c : Cells)
        → all_notes (serial_jobs (heard_job M shape gives) rows c) ≡ serial_jobs M (all_notes rows) c
    jobs_run [] c = refl
    jobs_run (r ∷ rows) c = grind (arith, common_steps, jobs_both, jobs_run rows (serial_cells M r.jobs c))

    lengths_run : (rows : List (HeardRow J)) (c : Cells)
        → map length (jobs_of (serial_jobs (heard_job M shape gives) rows c)) ≡ map length (jobs_of rows)
    lengths_run [] c = refl
    lengths_run (r ∷ rows) c =
        grind (arith, common_steps, length-serial_jobs, lengths_run rows (serial_cells M r.jobs c))

    abbrev block : HeardRow J → ℕ
    block r = length r.sum

    blocks_run : (rows : List (HeardRow J)) (c : Cells)
        → map block (serial_jobs (heard_job M shape gives) rows c) ≡ map block rows
    blocks_run [] c = refl
    blocks_run (r ∷ rows) c =
        grind (arith, common_steps, length-map-range_with_len, blocks_run rows (serial_cells M r.jobs c))

    abbrev IsSummed : HeardRow J → Type 0
    IsSummed r = r.sum ≡ sums gives (length r.sum) r.jobs

    summed : (rows : List (HeardRow J)) (c : Cells) → All IsSummed (serial_jobs (heard_job M shape gives) rows c)
    summed [] c = All-nil IsSummed
    summed (r ∷ rows) c = grind (arith, common_steps, length-map-range_with_len, summed rows (serial_cells M r.jobs c))

    pub runs : (rows : List (HeardRow J)) (c : Cells) → RunsAsNotes M shape gives rows c
    runs rows c = grind (arith, common_steps, blocks_run, cells_run, jobs_run, lengths_run, summed)

-- the sums of rows at an index are the sums of their notes
module _ {J : Type 0} (gives : J → ℕ → ℤ) where
  total_both : (xs ys : List ℤ) → total (xs ++ ys) ≡ total xs +ℤ total ys
  total_both [] ys = sym (+ℤ_idl (total ys))
  total_both (x ∷ xs) ys = ap (λ (z : ℤ). x +ℤ z) (total_both xs ys) ∙ sym (+ℤ_assoc x (total xs) (total ys))

  pub sum_of_rows : (rows : List (List J)) (at : ℕ)
      → sum_at gives (notes_in rows) at ≡ total (map (λ row. sum_at gives row at) rows)
  sum_of_rows [] at = refl
  sum_of_rows (row ∷ rows) at = grind (arith, common_steps, map-append, total_both, sum_of_rows rows at)
