-- Rows of jobs, and the same rows after their jobs have run.
use Rattle.std.proofs.Common.{◌≡◌, ◌<◌, ◌≤◌, ◌+◌, ◌+ℤ◌, ℕ, suc, ℤ, pos, List, [], ◌∷◌, ◌++◌, length, map, take, drop}
use Rattle.std.proofs.Common.{get_or, refl, sym, ap, ◌∙◌, subst, arith, zero-add}
use Rattle.std.specs.List.{All}
use Rattle.std.proofs.Math.Seq.{drop-append_seam, take-append_seam}
use Rattle.std.proofs.lemmas.List.{ext_get_or, length-append}
use Rattle.std.proofs.lemmas.List.Elements.{All-cons, All-head, All-nil, All-tail}
use Rattle.std.proofs.lemmas.List.FromFn.{get_or-map-range_with_len, length-map-range_with_len}
use Rattle.cs_base.specs.Numbers.{total}
use Rattle.cs_cells.specs.{Cells.Cells, Meaning.Meaning, Meaning.Frames, declared.footprint.Footprint.Footprint}
use Rattle.cs_cells.specs.Serial.{serial_cells, serial_jobs}
use Rattle.cs_cells.proofs.SerialRun.{foot-serial_jobs, length-serial_jobs}
use Rattle.cs_row.specs.{Cuts.AreRowsOf, Laws.all_notes, Laws.jobs_of, RowFrames.row_frames}
use Rattle.cs_row.specs.Heard.{HeardRow, heard_job, sum_at, sums}
use Rattle.cs_row.specs.Rows.{IsFree, IsRow, notes_in, row_foot, row_job}

module _ {J : Type 0} where
  -- rows with the same jobs and the same lengths are the same
  pub same_rows : (rows others : List (List J)) → notes_in rows ≡ notes_in others → map length rows ≡ map length others
      → rows ≡ others
  same_rows [] [] e f = refl
  same_rows [] (o ∷ os) e f = absurd (let n : 0 ≡ suc (length (map length os)) = ap length f in omega (arith, n))
  same_rows (r ∷ rs) [] e f = absurd (let n : suc (length (map length rs)) ≡ 0 = ap length f in omega (arith, n))
  same_rows (r ∷ rs) (o ∷ os) e f =
      let long : length r ≡ length o = ap (λ (l : List ℕ). get_or l 0 0) f in
      let first : r ≡ o =
      sym (take-append_seam r (notes_in rs)) ∙ ap (λ (l : List J). take (length r) l) e
      ∙ ap (λ (n : ℕ). take n (o ++ notes_in os)) long ∙ take-append_seam o (notes_in os) in
      let rest : notes_in rs ≡ notes_in os =
      sym (drop-append_seam r (notes_in rs)) ∙ ap (λ (l : List J). drop (length r) l) e
      ∙ ap (λ (n : ℕ). drop n (o ++ notes_in os)) long ∙ drop-append_seam o (notes_in os) in
      ap (λ (x : List J). x ∷ rs) first ∙ ap (λ (xs : List (List J)). o ∷ xs) (same_rows rs os rest (behind f))
    where
      behind : map length (r ∷ rs) ≡ map length (o ∷ os) → map length rs ≡ map length os
      behind h = ap (λ (l : List ℕ). drop 1 l) h

  -- there are at most as many rows as jobs
  pub row_count : (M : Meaning J) (rows : List (List J)) → All (IsRow M) rows → length rows ≤ length (notes_in rows)
  row_count M [] all = omega arith
  row_count M (row ∷ rows) all =
      let some : 0 < length row = (All-head (IsRow M) row rows all).some in
      let more : length rows ≤ length (notes_in rows) = row_count M rows (All-tail (IsRow M) row rows all) in
      let long : length (row ++ notes_in rows) ≡ length row + length (notes_in rows) =
      length-append row (notes_in rows) in
      omega (arith, some, more, long)

  -- what holds for a row if something holds for its first job
  pub of_first : (M : Meaning J) (Q : J → Type 0) (G : List J → Type 0)
      → ((j : J) (js : List J) → Q j → G (j ∷ js)) → (rows : List (List J)) → All (IsRow M) rows
      → All Q (notes_in rows) → All G rows
  of_first M Q G so [] rows notes = All-nil G
  of_first M Q G so ([] ∷ rows) all notes =
      absurd (let some : 0 < 0 = (All-head (IsRow M) [] rows all).some in omega (arith, some))
  of_first M Q G so ((j ∷ js) ∷ rows) all notes =
      All-cons G (j ∷ js) rows (so j js (notes 0 j (omega arith)))
      (of_first M Q G so rows (All-tail (IsRow M) (j ∷ js) rows all)
      (behind (j ∷ js) (notes_in rows) notes))
    where
      behind : (xs ys : List J) → All Q (xs ++ ys) → All Q ys
      behind [] ys h = h
      behind (x ∷ xs) ys h = behind xs ys (All-tail Q x (xs ++ ys) h)

module _ {J : Type 0} (M : Meaning J) where
  jobs_both : (xs ys : List J) (c : Cells)
      → serial_jobs M (xs ++ ys) c ≡ serial_jobs M xs c ++ serial_jobs M ys (serial_cells M xs c)
  jobs_both [] ys c = refl
  jobs_both (x ∷ xs) ys c = ap (λ (zs : List J). M.after x c ∷ zs) (jobs_both xs ys (M.leaves x c))

  notes_ran : (rows : List (List J)) (c : Cells)
      → notes_in (serial_jobs (row_job M) rows c) ≡ serial_jobs M (notes_in rows) c
  notes_ran [] c = refl
  notes_ran (row ∷ rows) c =
      ap (λ (zs : List J). serial_jobs M row c ++ zs) (notes_ran rows (serial_cells M row c))
      ∙ sym (jobs_both row (notes_in rows) c)

  pub lengths_ran : (rows : List (List J)) (c : Cells) → map length (serial_jobs (row_job M) rows c) ≡ map length rows
  lengths_ran [] c = refl
  lengths_ran (row ∷ rows) c =
      ap (λ (n : ℕ). n ∷ map length (serial_jobs (row_job M) rows (serial_cells M row c))) (length-serial_jobs M row c)
      ∙ ap (λ (ns : List ℕ). length row ∷ ns) (lengths_ran rows (serial_cells M row c))

  all_ran : (P : List J → Type 0) → ((row : List J) (c : Cells) → P row → P (serial_jobs M row c))
      → (rows : List (List J)) (c : Cells) → All P rows → All P (serial_jobs (row_job M) rows c)
  all_ran P stays [] c all = all
  all_ran P stays (row ∷ rows) c all =
      All-cons P (serial_jobs M row c) (serial_jobs (row_job M) rows (serial_cells M row c))
      (stays row c (All-head P row rows all))
      (all_ran P stays rows (serial_cells M row c) (All-tail P row rows all))

module _ {J : Type 0} (M : Meaning J) (F : Frames M) where
  free_after : (row : List J) (c : Cells) → IsFree M row → IsFree M (serial_jobs M row c)
  free_after row c free l =
      ap (λ (f : Footprint). f.writes) ((row_frames M F).foot_after row c)
      ∙ free (subst (λ (n : ℕ). 1 < n) (length-serial_jobs M row c) l)

  -- rows that have run are rows of the jobs that have run
  pub rows_ran : (most : ℕ) (js : List J) (rows : List (List J)) (c : Cells) → AreRowsOf M most js rows
      → AreRowsOf M most (serial_jobs M js c) (serial_jobs (row_job M) rows c)
  rows_ran most js rows c is = record {
    whole = notes_ran M rows c ∙ ap (λ (l : List J). serial_jobs M l c) is.whole;
    are = all_ran M (IsRow M) (row_frames M F).valid_after rows c is.are;
    free = all_ran M (IsFree M) free_after rows c is.free;
    few = all_ran M (λ row. length row ≤ most)
        (λ row d low. subst (λ (n : ℕ). n ≤ most) (sym (length-serial_jobs M row d)) low) rows c is.few;
  }

  pub feet_ran : (rows : List (List J)) (c : Cells)
      → map (row_foot M) (serial_jobs (row_job M) rows c) ≡ map (row_foot M) rows
  feet_ran rows c = foot-serial_jobs (row_job M) (row_frames M F) rows c

module _ {J : Type 0} (M : Meaning J) (shape : J → ℕ × ℕ) (gives : J → ℕ → ℤ) where
  abbrev IsLong : ℕ → HeardRow J → Type 0
  IsLong n r = length r.sum ≡ n

  -- a run doesn't change the length of the sums
  pub sums_stay : (n : ℕ) (rows : List (HeardRow J)) (c : Cells) → All (λ r. length r.sum ≡ n) rows
      → All (λ r. length r.sum ≡ n) (serial_jobs (heard_job M shape gives) rows c)
  sums_stay n [] c all = all
  sums_stay n (r ∷ rows) c all =
      All-cons (IsLong n) ((heard_job M shape gives).after r c)
      (serial_jobs (heard_job M shape gives) rows (serial_cells M r.jobs c))
      (length-map-range_with_len (sum_at gives (serial_jobs M r.jobs c)) 0 (length r.sum)
      ∙ All-head (IsLong n) r rows all)
      (sums_stay n rows (serial_cells M r.jobs c) (All-tail (IsLong n) r rows all))

  abbrev IsSummed : HeardRow J → Type 0
  IsSummed r = r.sum ≡ sums gives (length r.sum) r.jobs

  -- the sums of rows at an index
  totals : (n at : ℕ) (rows : List (HeardRow J)) → at < n → All (λ r. length r.sum ≡ n) rows → All IsSummed rows
      → total (map (λ (r : HeardRow J). get_or r.sum at (pos 0)) rows)
      ≡ total (map (λ row. sum_at gives row at) (jobs_of rows))
  totals n at [] low long summed = refl
  totals n at (r ∷ rows) low long summed =
      let here : get_or r.sum at (pos 0) ≡ sum_at gives r.jobs at =
      ap (λ (l : List ℤ). get_or l at (pos 0))
      (All-head IsSummed r rows summed ∙ ap (λ (k : ℕ). sums gives k r.jobs) (All-head (IsLong n) r rows long))
      ∙ get_or-map-range_with_len (sum_at gives r.jobs) 0 n at at (pos 0) low (zero-add at) in
      λ i. here i +ℤ totals n at rows low (All-tail (IsLong n) r rows long) (All-tail IsSummed r rows summed) i

  -- a block with the total of the sums at each index has the sums of all rows' jobs
  pub block_of_rows : (n : ℕ) (block : List ℤ) (rows : List (HeardRow J))
      → ((rs : List (List J)) (at : ℕ) → sum_at gives (notes_in rs) at ≡ total (map (λ row. sum_at gives row at) rs))
      → length block ≡ n
      → All (λ r. length r.sum ≡ n) rows → All (λ r. r.sum ≡ sums gives (length r.sum) r.jobs) rows
      → ((at : ℕ) → at < n
      → get_or block at (pos 0) ≡ total (map (λ (r : HeardRow J). get_or r.sum at (pos 0)) rows))
      → block ≡ sums gives n (all_notes rows)
  block_of_rows n block rows law size long summed each =
      ext_get_or (pos 0) block (sums gives n (all_notes rows))
      (size ∙ sym (length-map-range_with_len (sum_at gives (all_notes rows)) 0 n))
      (λ at l.
      let low : at < n = subst (λ (k : ℕ). at < k) size l in
      each at low ∙ totals n at rows low long summed ∙ sym (law (jobs_of rows) at)
      ∙ sym (get_or-map-range_with_len (sum_at gives (all_notes rows)) 0 n at at (pos 0) low (zero-add at)))
