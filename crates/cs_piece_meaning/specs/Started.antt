-- The waiting notes that start in a cycle, as a rule that relates the moment before to the moment after,
-- without counting steps.
use Rattle.std.specs.Prelude.{ℕ, ◌≡◌, List, [], ◌∷◌}
use Rattle.cs_sched.specs.declared.due.Due.{Due}
use Rattle.cs_piece_meaning.specs.{Moments.Composition, Moments.Moment, Starts.start_in, Starts.start_of, Starts.taken}

-- If no note waits for the cycle, nothing changes. Otherwise the note that was added first is taken out and
-- started, and then the rule holds for the notes that wait after that, including those that were added
-- meanwhile.
pub data AreStarted (c : Composition) (now : ℕ) : Moment → Moment → Type 0 where
  nothing_due : (m : Moment) → m.waiting.due now ≡ [] → AreStarted c now m m
  first_due : (m end : Moment) (d : Due) (rest : List Due) → m.waiting.due now ≡ d ∷ rest
      → AreStarted c now (start_in c now (start_of d) (record m { waiting = taken now rest m.waiting })) end
      → AreStarted c now m end
