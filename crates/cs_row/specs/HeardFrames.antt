-- The frame law of rows with their sums.
use Rattle.std.proofs.Common.{◌≡◌, ◌≤◌, ℕ, ℤ, List, [], ◌∷◌, length, ap, sym, ◌∙◌, subst}
use Rattle.std.specs.List.{All}
use Rattle.std.proofs.lemmas.List.Elements.{All-cons, All-head, All-tail}
use Rattle.std.proofs.lemmas.List.FromFn.{length-map-range_with_len}
use Rattle.cs_base.specs.Limits.{most_notes}
use Rattle.cs_cells.specs.{Cells.Cells, Meaning.Meaning, Meaning.Frames, Serial.serial_jobs}
use Rattle.cs_cells.proofs.SerialRun.{length-serial_jobs}
use Rattle.cs_row.specs.Heard.{HeardRow, IsHeardRow, KeepsShape, heard_job, sum_at, with_sums}
use Rattle.cs_row.specs.RowFrames.{row_frames}

module _ {J : Type 0} (M : Meaning J) (shape : J → ℕ × ℕ) (gives : J → ℕ → ℤ) (F : Frames M)
    (keeps : KeepsShape M shape) where
  pub shapes_after : (js : List J) (c : Cells) (s : ℕ × ℕ) → All (λ j. shape j ≡ s) js
      → All (λ j. shape j ≡ s) (serial_jobs M js c)
  shapes_after [] c s all = all
  shapes_after (j ∷ js) c s all =
      let P : J → Type 0 = λ x. shape x ≡ s in
      All-cons P (M.after j c) (serial_jobs M js (M.leaves j c)) (keeps j c ∙ All-head P j js all)
      (shapes_after js (M.leaves j c) s (All-tail P j js all))

  heard_after : (r : HeardRow J) (c : Cells) → IsHeardRow M shape r
      → IsHeardRow M shape (with_sums gives (length r.sum) (serial_jobs M r.jobs c))
  heard_after r c h = record {
    row = (row_frames M F).valid_after r.jobs c h.row;
    few = subst (λ n. n ≤ most_notes) (sym (length-serial_jobs M r.jobs c)) h.few;
    frames = h.frames;
    channels = h.channels;
    alike = shapes_after r.jobs c (h.frames, h.channels) h.alike;
    long = length-map-range_with_len (sum_at gives (serial_jobs M r.jobs c)) 0 (length r.sum) ∙ h.long;
  }

  pub heard_frames : Frames (heard_job M shape gives)
  heard_frames = record {
    job = λ r c d h same. ap (with_sums gives (length r.sum)) ((row_frames M F).job r.jobs c d h.row same);
    cells = λ r c d h same. (row_frames M F).cells r.jobs c d h.row same;
    others = λ r c a h outside. (row_frames M F).others r.jobs c a h.row outside;
    long = λ r c. (row_frames M F).long r.jobs c;
    valid_after = heard_after;
    foot_after = λ r c. (row_frames M F).foot_after r.jobs c;
    areas_after = λ r c. (row_frames M F).areas_after r.jobs c;
  }
