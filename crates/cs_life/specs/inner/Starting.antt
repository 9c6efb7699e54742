-- Steps of a start.
use Rattle.std.specs.Prelude.{ℕ, ℤ, ◌≡◌, ◌+◌, ◌-◌, ◌^◌, Bool, List, [], ◌∷◌, min, Some, None}
use Rattle.cs_piece_meaning.specs.{Moments.Composition, Moments.Active, Moments.Moment, Starts.Start, Starts.asked}
use Rattle.cs_ir.specs.declared.ask.Ask.{Ask}
use Rattle.cs_life.specs.Standing.{Plays, kept_count}
use Rattle.cs_meaning.specs.{Core.Block, Notes.Note, Plain.Cause, Plain.Plain}
use Rattle.cs_sched.specs.{Waiting.Queue, Waiting.waiting, declared.pending.Added.Added}
use Rattle.cs_voice.specs.declared.note.Started.{Started}
use Rattle.cs_voice.specs.{VoiceMeaning.IsVoice, declared.stage.Stage.Stage}
use Rattle.cs_sched.specs.declared.pending.Added.TheVariants as added
use Rattle.cs_voice.specs.declared.note.Started.TheVariants as started

-- the note of a start in a cycle, once it plays
abbrev pub active_of : ℕ → Start → Block → Note Plain → ℕ → Active
active_of now s body t age =
    record { number = s.number; age = age; ends = now + s.cycles; fields = s.fields; body = body; note = t }

-- a note whose initialisation was refused
abbrev pub IsRefused : Note Plain → Type 0
IsRefused t = (cause : Cause) × (t.world.cause ≡ Some cause)

-- The result of a start represents the result for the note: a voice that plays it, or a refusal.
abbrev pub IsBegun : Composition → Stage → List Bool → ℕ → Start → Block → Note Plain → Started → Type 0
IsBegun c stage flags now s body t (started.Live v) =
    (t.world.cause ≡ None) × (IsVoice v → (age : ℕ) → Plays c stage flags v (active_of now s body t age))
IsBegun c stage flags now s body t (started.NoTable number) = IsRefused t
IsBegun c stage flags now s body t (started.DelayTooLong samples) = IsRefused t

-- the moment after all the notes that a note schedules were added
abbrev pub all_wanted : Composition → ℕ → ℤ → List Ask → Moment → Moment
all_wanted c now time [] m = m
all_wanted c now time (a ∷ rest) m = all_wanted c now time rest (asked c now time a m)

-- a count of starts that started nothing, in 64 bits, after the result of scheduling a note
abbrev pub count_after : Added → ℕ → ℕ
count_after added.Kept n = n
count_after _ n = min (n + 1) (2 ^ 64 - 1)

-- the notes that wait and the number of starts that started nothing represent a moment
pub record Wait (pending : Queue) (not_started : ℕ) (m : Moment) : Type 0 where
  pub due : (cycle : ℕ) → (waiting pending).due cycle ≡ m.waiting.due cycle
  pub kept : (waiting pending).kept ≡ m.waiting.kept
  pub count : not_started ≡ kept_count m.not_started
