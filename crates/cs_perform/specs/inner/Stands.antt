-- The state of a performance from cycle to cycle.
use Rattle.std.specs.Prelude.{ℕ, ◌≡◌, ◌*◌, ℤ, [], ◌∷◌, ◌++◌, List, length, map, true}
use Rattle.cs_piece_meaning.specs.Course.{begins, moment_at, performed, turned_off}
use Rattle.cs_piece_meaning.specs.{Heard.mix_in, Moments.Composition, Moments.Moment}
use Rattle.cs_cells.specs.declared.footprint.Footprint.{Footprint}
use Rattle.cs_desk.specs.{Desk.areas, Desk.cells, Desk.HasRoom, Courses.IsCourseOf}
use Rattle.cs_life.specs.Standing.{StandsFor}
use Rattle.cs_piece.specs.Setups.{SetupData, composition_of}
use Rattle.cs_turns.specs.Turns.{line_of, turns_in}
use Rattle.cs_row.specs.{Cuts.AreRowsOf, Kept.HasMemory, Kept.cuts, Rows.row_foot}
use Rattle.cs_voice.specs.{VoiceData.VoiceData, VoiceMeaning.voice_job}
use Rattle.cs_perform.specs.Counted.{AreHeardIn, CountsOn, Receipts}
use Rattle.cs_perform.specs.{Performances.if_told, declared.order.Performance.Performance}
use Rattle.cs_perform.specs.declared.stand.Stand.{Stand}

-- voices are cut into rows with these numbers of notes, at most `most` each, and these are the footprints of
-- the rows
pub record IsInRows (voices : List VoiceData) (most : ℕ) (cuts : List ℕ) (feet : List Footprint) : Type 0 where
  pub rows : List (List VoiceData)
  pub of : AreRowsOf voice_job most voices rows
  pub lengths : map length rows ≡ cuts
  pub feet_are : map (row_foot voice_job) rows ≡ feet

module _ {G : Type 0} where
  -- the rows contain the notes that play, and the course is the rows' course
  abbrev pub InRows : Stand G → Type 0
  InRows stand = IsInRows stand.voices.items stand.rows.most (cuts stand.rows) stand.course.feet.items

  -- the rows contain the notes that play, there is memory for them, and room for their cycle
  pub record IsReady (stand : Stand G) : Type 0 where
    pub rows : InRows stand
    pub memory : HasMemory stand.rows
    pub room : HasRoom stand.desk (length (cuts stand.rows)) (length stand.course.graph.value.edges)

  -- The state represents a moment of a setup's performance. Unless notes have begun or left since they were
  -- cut, the rows contain the notes that play, and the course is the rows' course.
  pub record IsAt (s : SetupData) (stand : Stand G) (m : Moment) : Type 0 where
    pub setup : stand.life.setup.now ≡ s
    pub stands : StandsFor (composition_of s) stand.life stand.voices.items (cells stand.desk) m
    pub areas : areas stand.desk ≡ s.zones
    pub block : stand.rows.block ≡ s.orchestra.head.ksmps * s.orchestra.head.nchnls
    pub course : IsCourseOf stand.course.feet.items stand.course
    pub turns : IsCourseOf stand.turns.feet.items stand.turns
    pub current : stand.current ≡ true → InRows stand

-- one more cycle was counted, by the voices that were heard in it
pub record CountsCycle {C : Type 0} (has_counted : C → Receipts → Type 0) (c : Composition) (n : ℕ)
    (before now : C) : Type 0 where
  pub voices : List VoiceData
  pub heard : AreHeardIn c n voices
  pub counted : CountsOn has_counted before now (voices ∷ [])

-- The notes of a cycle begin, and their line of turns is appended if the report has such lines.
pub record BeginsNotes {S : Type 0} (is_at : SetupData → S → Moment → Type 0) (performance : Performance) (n : ℕ)
    (old now : S) (before after : List ℕ) : Type 0 where
  pub begun : (m : Moment) → is_at performance.setup.now old m
      → is_at performance.setup.now now (begins (composition_of performance.setup.now) n m)
  pub turns : (m : Moment) → is_at performance.setup.now old m
      → let c = composition_of performance.setup.now in
      after ≡ before ++ if_told performance.order.turns (line_of n (turns_in c (begins c n m).active))

-- The notes that have begun perform a cycle, and those that were turned off leave: the state represents the
-- moment after it, the cycle was counted, and the block has the sum of the notes.
pub record RunsNotes {S C : Type 0} (is_at : SetupData → S → Moment → Type 0) (has_counted : C → Receipts → Type 0)
    (old now : S) (before after : C) (block : List ℤ) : Type 0 where
  pub ended : (s : SetupData) (m : Moment) → is_at s old m → is_at s now (turned_off (performed (composition_of s) m))
  pub counted : (s : SetupData) (n : ℕ)
      → is_at s old (begins (composition_of s) n (moment_at (composition_of s) n))
      → CountsCycle has_counted (composition_of s) n before after
  pub heard : (s : SetupData) (n : ℕ)
      → is_at s old (begins (composition_of s) n (moment_at (composition_of s) n)) → block ≡ mix_in (composition_of s) n
