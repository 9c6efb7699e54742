-- The state of a performance, from step to step.
use Rattle.std.proofs.Common.{subst, ◌≡◌, ℕ, zero, suc, ℤ, pos, List, ◌∷◌, length, replicate, refl, ap, sym, ◌∙◌}
use Rattle.std.specs.{List.All, Option.IsSomeAnd, Prelude.Result, Prelude.Ok, Prelude.Err, Prelude.OnOk}
use Rattle.std.specs.Prelude.{Option, Some, None}
use Rattle.cs_cells.specs.Access.{AllowsBelow, full_access}
use Rattle.cs_cells.specs.{Areas.word_count, Areas.IsFootprint, Cells.Cells, Cells.values, Serial.serial_cells}
use Rattle.cs_cells.specs.{Serial.serial_jobs, declared.footprint.Area.Area, declared.footprint.Footprint.Footprint}
use Rattle.cs_piece_meaning.specs.{Course.begins, Moments.Composition, Moments.Moment}
use Rattle.cs_graph.specs.Graph.{Dependencies}
use Rattle.cs_life.specs.{Standing.StandsFor, declared.life.Life.Life}
use Rattle.cs_piece.specs.Setups.{SetupData, composition_of}
use Rattle.cs_voice.specs.{VoiceData.VoiceData, VoiceMeaning.voice_job}
use Rattle.cs_desk.specs.{declared.course.Course.Course, Courses.IsCourseOf}
use Rattle.cs_perform.specs.declared.order.PerformanceOrder.{PerformanceOrder}
use Rattle.cs_perform.specs.{declared.recording.Recording.Recording, inner.Recordings.IsRecordingOf}
use Rattle.cs_perform.specs.{declared.stand.Stand.Stand, inner.Stands.IsAt}

-- a step whose setup is the life's own
pub of_setup : (s : SetupData) (life : Life) (voices : List VoiceData) (cells : Cells) (m : Moment) → life.setup.now ≡ s
    → StandsFor (composition_of s) life voices cells m → StandsFor (composition_of life.setup.now) life voices cells m
of_setup s life voices cells m is st =
    let P : SetupData → Type 0 = λ t. StandsFor (composition_of t) life voices cells m in subst P (sym is) st

pub begun_at : (s t : SetupData) (life next : Life) (voices voices' : List VoiceData) (cells cells' : Cells) (cycle : ℕ)
    (m : Moment)
    → t ≡ s → ((m : Moment) → StandsFor (composition_of t) life voices cells m
    → StandsFor (composition_of t) next voices' cells' (begins (composition_of t) cycle m))
    → StandsFor (composition_of s) life voices cells m
    → StandsFor (composition_of s) next voices' cells' (begins (composition_of s) cycle m)
begun_at s t life next voices voices' cells cells' cycle m is step st =
    let P : SetupData → Type 0 = λ u. StandsFor (composition_of u) life voices cells m in
    let Q : SetupData → Type 0 =
    λ u. StandsFor (composition_of u) next voices' cells' (begins (composition_of u) cycle m) in
    subst Q is (step m (subst P (sym is) st))

-- what holds for voices in the areas of the stage holds in the desk's areas
pub areas_of_desk : (s : SetupData) (life : Life) (areas : List Area) (voices : List VoiceData) (cells : Cells)
    (m : Moment)
    → life.setup.now ≡ s → areas ≡ s.zones → StandsFor (composition_of s) life voices cells m
    → life.stage.zones.now ≡ areas
areas_of_desk s life areas voices cells m is e st = st.zones ∙ ap (λ (t : SetupData). t.zones) is ∙ sym e

-- there are as many cells in the zones as in the layout
pub words_of_desk : (s : SetupData) (life : Life) (areas : List Area) (voices : List VoiceData) (cells : Cells)
    (m : Moment)
    → life.setup.now ≡ s → areas ≡ s.zones → StandsFor (composition_of s) life voices cells m
    → word_count life.setup.now.layout ≡ word_count areas
words_of_desk s life areas voices cells m is e st =
    ap word_count (sym st.layout) ∙ sym st.stand.stage_is.zones.words
    ∙ ap word_count (areas_of_desk s life areas voices cells m is e st)

-- access to each of m cells is access to each cell below the same number
pub allows_all : (n m : ℕ) → n ≡ m → AllowsBelow (full_access m) n
allows_all n m same =
    subst (λ k. AllowsBelow (full_access k) n) same (record {
      get = λ a below. below;
      set = λ a below. below;
      there = λ a below. below;
    })

-- words of 0 are cells of 0
pub zero_cells : (n : ℕ) → values (replicate n 0) ≡ replicate n (pos 0)
zero_cells zero = refl
zero_cells (suc n) = ap (λ (l : List ℤ). pos 0 ∷ l) (zero_cells n)

-- a course is its own
pub own_course : (feet : List Footprint) (course : Course) → IsCourseOf feet course
    → IsCourseOf course.feet.items course
own_course feet course is =
    let P : List Footprint → Type 0 = λ l. IsCourseOf l course in subst P (sym is.feet_are) is

-- a course with the same graph and footprints
pub kept_course : (course next : Course) → next.graph.value ≡ course.graph.value → next.feet.items ≡ course.feet.items
    → IsCourseOf course.feet.items course → IsCourseOf next.feet.items next
kept_course course next same feet is = record {
  feet_are = refl;
  notes = ap (λ (g : Dependencies). length g.levels) same ∙ is.notes ∙ ap length (sym feet);
  fit = rw (feet, same) is.fit;
  levelled = rw (feet, same) is.levelled;
}

-- voices and cells after the serial run
pub ran_at : (c : Composition) (life : Life) (voices voices' : List VoiceData) (cells cells' : Cells) (m : Moment)
    → voices' ≡ serial_jobs voice_job voices cells → cells' ≡ serial_cells voice_job voices cells
    → StandsFor c life (serial_jobs voice_job voices cells) (serial_cells voice_job voices cells) m
    → StandsFor c life voices' cells' m
ran_at c life voices voices' cells cells' m jobs left st = rw (jobs, left) st

-- the footprints of the voices are in terms of the desk's areas
pub areas_same : (s : SetupData) (life : Life) (areas : List Area) (voices : List VoiceData) (cells : Cells)
    (m : Moment)
    → life.setup.now ≡ s → areas ≡ s.zones → StandsFor (composition_of s) life voices cells m
    → All (λ (v : VoiceData). v.zones ≡ life.stage.zones.now) voices → All (λ (v : VoiceData). v.zones ≡ areas) voices
areas_same s life areas voices cells m is e st all k d lt =
    all k d lt ∙ areas_of_desk s life areas voices cells m is e st

pub feet_in_areas : (s : SetupData) (life : Life) (areas : List Area) (voices : List VoiceData) (cells : Cells)
    (m : Moment)
    → life.setup.now ≡ s → areas ≡ s.zones → StandsFor (composition_of s) life voices cells m
    → All (λ (v : VoiceData). IsFootprint (length life.stage.zones.now) v.foot) voices
    → All (λ (v : VoiceData). IsFootprint (length areas) v.foot) voices
feet_in_areas s life areas voices cells m is e st all =
    rw (← areas_of_desk s life areas voices cells m is e st) all

-- the state of a sounder, in terms of a call's argument
pub stands_so : {S : Type 0} (is_at : SetupData → S → Moment → Type 0) (s : SetupData) (sounder : S) (m : Moment)
    → is_at s sounder m → is_at s sounder m
stands_so is_at s sounder m at = at

-- a recording stays one, whatever the result
pub still_recorded : {A E : Type 0} (r : Result A E) (s : SetupData) (order : PerformanceOrder) (n : ℕ)
    (recording : Recording)
    → IsRecordingOf s order n recording → OnOk r (IsRecordingOf s order n recording)
still_recorded (Ok x) s order n recording is = is
still_recorded (Err e) s order n recording is = tt

-- the state of an ensemble, if it isn't out
module _ {G : Type 0} (s : SetupData) (m : Moment) where
  abbrev IsThere : Option (Stand G) → Type 0
  IsThere o = IsSomeAnd o (λ (stand : Stand G). IsAt s stand m)

  pub there : (o : Option (Stand G)) (stand : Stand G) → o ≡ Some stand → IsSomeAnd o (λ (x : Stand G). IsAt s x m)
      → IsAt s stand m
  there o stand is at = subst IsThere is at

  pub put_there : (o : Option (Stand G)) (stand : Stand G) → o ≡ Some stand → IsAt s stand m
      → IsSomeAnd o (λ (x : Stand G). IsAt s x m)
  put_there o stand is at = subst IsThere (sym is) at

  pub never_gone : {B : Type 0} (o : Option (Stand G)) → o ≡ None → IsSomeAnd o (λ (x : Stand G). IsAt s x m) → B
  never_gone o is at = absurd (subst IsThere is at)

  -- the state was there and was taken
  pub never_taken : {B : Type 0} (o took : Option (Stand G)) → took ≡ o → ((x : Stand G) → took ≡ Some x → ⊥)
      → IsSomeAnd o (λ (x : Stand G). IsAt s x m) → B
  never_taken None took same none at = absurd at
  never_taken (Some x) took same none at = absurd (none x same)
