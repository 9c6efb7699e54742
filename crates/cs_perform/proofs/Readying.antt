-- The rows of the notes that play, cut again, and room for their cycle.
use Rattle.std.proofs.Common.{◌≡◌, ◌≤◌, ℕ, List, length, map, refl, ◌∙◌}
use Rattle.cs_base.specs.Limits.{most_notes}
use Rattle.cs_cells.specs.declared.footprint.Footprint.{Footprint}
use Rattle.cs_desk.specs.{Courses.IsCourseOf, Desk.HasRoom, declared.course.Course.Course, declared.desk.Desk.Desk}
use Rattle.cs_row.specs.{Cuts.AreRowsOf, Cuts.IsCut, Rows.row_foot}
use Rattle.cs_voice.specs.{VoiceData.VoiceData, VoiceMeaning.voice_job}
use Rattle.cs_perform.specs.inner.Stands.{IsInRows}
use Rattle.cs_perform.proofs.Rows.{as_many_feet, few_rows, in_rows}

-- rows that were cut from the voices, and their footprints, which a course stores
pub rows_cut : (voices notes others : List VoiceData) (most : ℕ) (lengths : List ℕ) (feet kept : List Footprint)
    → notes ≡ voices → others ≡ voices → IsCut voice_job most notes lengths
    → ((rows : List (List VoiceData)) → AreRowsOf voice_job most others rows → map length rows ≡ lengths
    → feet ≡ map (row_foot voice_job) rows)
    → kept ≡ feet → IsInRows voices most lengths kept
rows_cut voices notes others most lengths feet kept e f cut are same =
    rw same (in_rows voices most lengths feet (rw e at cut) (rw f at are))

pub few_feet : (voices notes others : List VoiceData) (most : ℕ) (lengths : List ℕ) (feet : List Footprint)
    → notes ≡ voices → others ≡ voices → IsCut voice_job most notes lengths
    → ((rows : List (List VoiceData)) → AreRowsOf voice_job most others rows → map length rows ≡ lengths
    → feet ≡ map (row_foot voice_job) rows)
    → length voices ≤ most_notes → length feet ≤ most_notes
few_feet voices notes others most lengths feet e f cut are few =
    few_rows voices most lengths feet (rows_cut voices notes others most lengths feet feet e f cut are refl) few

-- room for as many rows as the course has notes
pub room_for : {D : Type 0} (desk : Desk D) (count edges more : ℕ) (voices : List VoiceData) (most : ℕ)
    (lengths : List ℕ) (course : Course) → IsInRows voices most lengths course.feet.items
    → IsCourseOf course.feet.items course → count ≡ length course.graph.value.levels → more ≡ edges
    → HasRoom desk count more → HasRoom desk (length lengths) edges
room_for desk count edges more voices most lengths course is right e f room =
    let long : count ≡ length lengths =
    e ∙ right.notes ∙ as_many_feet voices most lengths course.feet.items is in
    rw (← long, ← f) room
