-- The notes that wait, and the outcome of scheduling a note.
use Rattle.std.specs.Prelude.{ℕ, ◌≡◌, ◌≢◌, ◌+◌, ◌==◌, List, [], ◌∷◌, ◌++◌, filter, nat_le, Option, None, option_to_list}
use Rattle.std.specs.{Prelude.if◌then◌else◌, Int.is_negative}
use Rattle.cs_base.specs.Limits.{most_asks}
use Rattle.cs_ir.specs.declared.ask.Ask.{Ask}
use Rattle.cs_sched.specs.{Times.Clock, Times.begins_in, declared.due.Due.Due, declared.pending.Added.Added}
use Rattle.cs_sched.specs.declared.pending.Added.TheVariants as added

-- The notes that begin in each cycle, in the order in which they were added; and the number of notes added in
-- all.
pub record Waiting : Type 0 where
  pub due : ℕ → List Due
  pub kept : ℕ

-- no note waits, and none was added
abbrev pub nothing_waits : Waiting
nothing_waits = record { due = λ c. []; kept = 0 }

-- the first answer that applies
abbrev pub answer_to : Clock → ℕ → Ask → ℕ → Added
answer_to clock now ask kept =
    if is_negative ask.dur then added.Negative
    else (if nat_le most_asks kept then added.TooMany
    else (if nat_le clock.cycles (begins_in clock now ask) then added.PastEnd
    else added.Kept))

-- a note that is added comes after all others of its cycle; after any other answer nothing has changed
abbrev pub with_answer : Added → Due → Waiting → Waiting
with_answer added.Kept d w =
    record { due = λ c. if c == d.cycle then w.due c ++ d ∷ [] else w.due c; kept = w.kept + 1 }
with_answer _ d w = w

-- the first note of a cycle was taken out, if there is one, and all others wait as before
pub record IsTaken (cycle : ℕ) (old : Waiting) (taken : Option Due) (new : Waiting) : Type 0 where
  pub first : old.due cycle ≡ option_to_list taken ++ new.due cycle
  pub none : taken ≡ None → old.due cycle ≡ []
  pub others : (c : ℕ) → c ≢ cycle → new.due c ≡ old.due c
  pub kept : new.kept ≡ old.kept

-- the waiting notes in one list, and the number of notes added in all
pub record Queue : Type 0 where
  pub dues : List Due
  pub kept : ℕ

-- the notes of a list that begin in a cycle
abbrev pub those_in : List Due → ℕ → List Due
those_in dues c = filter (λ d. d.cycle == c) dues

-- the waiting notes of a queue, by cycle
abbrev pub waiting : Queue → Waiting
waiting q = record { due = those_in q.dues; kept = q.kept }
