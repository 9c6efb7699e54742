-- The rows of the notes that play, from step to step.
use Rattle.std.proofs.Common.{◌≡◌, ◌≤◌, ◌*◌, ℕ, ℤ, pos, List, [], ◌∷◌, length, map, ap, refl, sym, ◌∙◌, subst, arith}
use Rattle.std.proofs.Common.{replicate}
use Rattle.std.specs.List.{All, range_with_len}
use Rattle.std.proofs.lemmas.{List.length-map, List.FromFn.length-range_with_len, Simd.splat_is_map}
use Rattle.std.proofs.lemmas.List.Elements.{All-cons, All-head, All-nil, All-tail}
use Rattle.cs_base.specs.Limits.{most_notes}
use Rattle.cs_cells.specs.{Areas.IsFootprint, Cells.Cells, declared.footprint.Footprint.Footprint}
use Rattle.cs_cells.specs.Serial.{serial_cells, serial_jobs}
use Rattle.cs_cells.proofs.SerialRun.{length-serial_jobs}
use Rattle.cs_desk.specs.{Courses.IsCourseOf, Cycles.IsCycle, Cycles.WasPlayed, Desk.areas, Desk.cells, Desk.HasRoom}
use Rattle.cs_desk.specs.{declared.course.Course.Course, declared.desk.Desk.Desk}
use Rattle.cs_graph.specs.Graph.{IsFit}
use Rattle.cs_row.specs.{Cuts.AreRowsOf, Cuts.IsCut, Heard.HeardRow, Heard.sums, Laws.RunsAsNotes, Laws.all_notes}
use Rattle.cs_row.specs.{Laws.jobs_of, Rows.notes_in, Rows.row_areas, Rows.row_foot, Rows.row_job}
use Rattle.cs_voice.specs.{Jobs.voice_job_frames, VoiceData.VoiceData, VoiceMeaning.voice_job}
use Rattle.cs_voice.specs.Mixing.{gives, mixed, shape}
use Rattle.cs_voice.proofs.Blocks.{sums_are_mixed}
use Rattle.cs_perform.proofs.Ran.{feet_ran, lengths_ran, of_first, row_count, rows_ran, same_rows, sums_stay}
use Rattle.cs_perform.specs.{inner.Rows.rows_job, inner.Stands.IsInRows}

module _ (voices after : List VoiceData) (most : ℕ) (lengths : List ℕ) (feet : List Footprint) where
  -- the rows of voices that have run
  pub rows_after : (c : Cells) → after ≡ serial_jobs voice_job voices c → IsInRows voices most lengths feet
      → IsInRows after most lengths feet
  rows_after c ran is = record {
    rows = serial_jobs (row_job voice_job) is.rows c;
    of = rw ran (rows_ran voice_job voice_job_frames most voices is.rows c is.of);
    lengths = lengths_ran voice_job is.rows c ∙ is.lengths;
    feet_are = feet_ran voice_job voice_job_frames is.rows c ∙ is.feet_are;
  }

-- rows that were cut, with these footprints
pub in_rows : (voices : List VoiceData) (most : ℕ) (lengths : List ℕ) (feet : List Footprint)
    → IsCut voice_job most voices lengths
    → ((rows : List (List VoiceData)) → AreRowsOf voice_job most voices rows → map length rows ≡ lengths
    → feet ≡ map (row_foot voice_job) rows)
    → IsInRows voices most lengths feet
in_rows voices most lengths feet cut are =
    record { rows = cut.rows; of = cut.of; lengths = cut.lengths; feet_are = sym (are cut.rows cut.of cut.lengths) }

-- there are at most as many rows as voices
pub few_rows : (voices : List VoiceData) (most : ℕ) (lengths : List ℕ) (feet : List Footprint)
    → IsInRows voices most lengths feet → length voices ≤ most_notes → length feet ≤ most_notes
few_rows voices most lengths feet is few =
    let many : length feet ≡ length is.rows =
    ap length (sym is.feet_are) ∙ length-map is.rows (row_foot voice_job) in
    let fewer : length is.rows ≤ length (notes_in is.rows) = row_count voice_job is.rows is.of.are in
    let whole : length (notes_in is.rows) ≡ length voices = ap length is.of.whole in
    omega (arith, many, fewer, whole, few)

-- as many footprints as rows
pub as_many_feet : (voices : List VoiceData) (most : ℕ) (lengths : List ℕ) (feet : List Footprint)
    → IsInRows voices most lengths feet → length feet ≡ length lengths
as_many_feet voices most lengths feet is =
    ap length (sym is.feet_are) ∙ length-map is.rows (row_foot voice_job)
    ∙ sym (length-map is.rows length) ∙ ap length is.lengths

feet_of_jobs : (filled : List (HeardRow VoiceData))
    → map (λ (r : HeardRow VoiceData). row_foot voice_job r.jobs) filled ≡ map (row_foot voice_job) (jobs_of filled)
feet_of_jobs [] = refl
feet_of_jobs (r ∷ filled) = ap (λ (l : List Footprint). row_foot voice_job r.jobs ∷ l) (feet_of_jobs filled)

of_jobs : (P : List VoiceData → Type 0) (filled : List (HeardRow VoiceData)) → All P (jobs_of filled)
    → All (λ (r : HeardRow VoiceData). P r.jobs) filled
of_jobs P [] all = All-nil (λ (r : HeardRow VoiceData). P r.jobs)
of_jobs P (r ∷ filled) all =
    All-cons (λ (x : HeardRow VoiceData). P x.jobs) r filled (All-head P r.jobs (jobs_of filled) all)
    (of_jobs P filled (All-tail P r.jobs (jobs_of filled) all))

module _ (filled : List (HeardRow VoiceData)) {voices : List VoiceData} {most : ℕ}
    (of : AreRowsOf voice_job most voices (jobs_of filled)) where
  in_each : (Q : VoiceData → Type 0) (P : List VoiceData → Type 0)
      → ((v : VoiceData) (vs : List VoiceData) → Q v → P (v ∷ vs)) → All Q voices
      → All (λ (r : HeardRow VoiceData). P r.jobs) filled
  in_each Q P so all =
      of_jobs P filled
      (of_first voice_job Q P so (jobs_of filled) of.are (subst (λ (l : List VoiceData). All Q l) (sym of.whole) all))

  -- the filled rows can be played
  pub rows_cycle : {D : Type 0} (desk : Desk D) (course : Course) (lengths : List ℕ)
      → map length (jobs_of filled) ≡ lengths → IsInRows voices most lengths course.feet.items
      → IsCourseOf course.feet.items course → All (λ (v : VoiceData). v.zones ≡ areas desk) voices
      → All (λ (v : VoiceData). IsFootprint (length (areas desk)) v.foot) voices
      → HasRoom desk (length lengths) (length course.graph.value.edges)
      → IsCycle rows_job course.graph.value desk filled
  rows_cycle desk course lengths long is right over footprints room =
      let same : jobs_of filled ≡ is.rows =
      same_rows (jobs_of filled) is.rows (of.whole ∙ sym is.of.whole) (long ∙ sym is.lengths) in
      let feet : map (λ (r : HeardRow VoiceData). row_foot voice_job r.jobs) filled ≡ course.feet.items =
      feet_of_jobs filled ∙ ap (map (row_foot voice_job)) same ∙ is.feet_are in
      let count : length filled ≡ length lengths =
      sym (length-map filled (λ (r : HeardRow VoiceData). r.jobs)) ∙ sym (length-map (jobs_of filled) length)
      ∙ ap length long in record {
        notes = right.notes ∙ as_many_feet voices most lengths course.feet.items is ∙ sym count;
        fit = subst (λ (l : List Footprint). IsFit l course.graph.value.edges) (sym feet) right.fit;
        over = in_each (λ v. v.zones ≡ areas desk) (λ row. row_areas voice_job row ≡ areas desk) (λ v vs h. h) over;
        footprints = in_each (λ v. IsFootprint (length (areas desk)) v.foot)
            (λ row. IsFootprint (length (areas desk)) (row_foot voice_job row)) (λ v vs h. h) footprints;
        room = subst (λ (n : ℕ). HasRoom desk n (length course.graph.value.edges)) (sym count) room;
      }

-- If rows of voices have run on a desk, the voices have.
pub record HaveRun {D : Type 0} (voices : List VoiceData) (filled played : List (HeardRow VoiceData))
    (desk rested : Desk D) : Type 0 where
  pub notes : all_notes played ≡ serial_jobs voice_job voices (cells desk)
  pub count : length (all_notes played) ≡ length voices
  pub left : cells rested ≡ serial_cells voice_job voices (cells desk)
  pub long : (n : ℕ) → All (λ (r : HeardRow VoiceData). length r.sum ≡ n) filled
      → All (λ (r : HeardRow VoiceData). length r.sum ≡ n) played
  pub summed : All (λ (r : HeardRow VoiceData). r.sum ≡ sums gives (length r.sum) r.jobs) played

pub have_run : {D : Type 0} {voices : List VoiceData} {most : ℕ} {filled played : List (HeardRow VoiceData)}
    {desk rested : Desk D} → AreRowsOf voice_job most voices (jobs_of filled)
    → WasPlayed rows_job desk filled played rested
    → ((rows : List (HeardRow VoiceData)) (c : Cells) → RunsAsNotes voice_job shape gives rows c)
    → HaveRun voices filled played desk rested
have_run {voices} {filled} {desk} of was laws =
    let c = cells desk in
    let law = laws filled c in
    let ran =
    ap (λ (l : List (HeardRow VoiceData)). all_notes l) was.jobs_are ∙ law.jobs
    ∙ ap (λ (l : List VoiceData). serial_jobs voice_job l c) of.whole in
    record {
      notes = ran;
      count = ap length ran ∙ length-serial_jobs voice_job voices c;
      left = was.cells_are ∙ law.cells ∙ ap (λ (l : List VoiceData). serial_cells voice_job l c) of.whole;
      long = λ n all. rw was.jobs_are (sums_stay voice_job shape gives n filled c all);
      summed = rw was.jobs_are law.summed;
    }

-- The sums of a cycle's notes at each index of the block are what is heard.
pub heard_of : (frames channels len : ℕ) (voices : List VoiceData) (block mix : List ℤ)
    → All (λ (v : VoiceData). shape v ≡ (frames, channels)) voices → len ≡ frames * channels
    → block ≡ sums gives len voices → mixed frames channels voices ≡ mix → block ≡ mix
heard_of frames channels len voices block mix shapes long is heard =
    is ∙ ap (λ (n : ℕ). sums gives n voices) long ∙ sums_are_mixed frames channels voices shapes ∙ heard

-- the sum of no notes is 0
pub silent : (voices : List VoiceData) (n : ℕ) → length voices ≡ 0 → replicate n (pos 0) ≡ sums gives n voices
silent [] n none = splat_is_map (range_with_len 0 n) n (pos 0) (length-range_with_len 0 n)
silent (v ∷ voices) n none = absurd (omega (arith, none))
