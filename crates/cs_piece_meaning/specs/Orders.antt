-- The order of the notes that play, and the notes that a cycle has.
use Rattle.std.specs.Prelude.{ℕ, ◌≡◌, ◌≢◌, ◌<◌, ◌≤◌, ◌<ℤ◌, ◌⊎◌, false, List, length, Some, All, AllPairs}
use Rattle.cs_base.specs.Limits.{most_notes}
use Rattle.cs_piece_meaning.specs.{Course.begins, Course.moment_at, Moments.Active, Moments.Composition, Moments.Moment}

-- Notes are ordered by instrument number and, within one instrument, by start: earlier first.
abbrev pub StandsBefore : Active → Active → Type 0
StandsBefore a b = (a.number <ℤ b.number) ⊎ ((a.number ≡ b.number) × (a.age < b.age))

-- A note that plays in a cycle: its statements belong to its instrument, the cycle comes before the note's
-- end, and the note wasn't turned off.
pub record PlaysIn (c : Composition) (cycle : ℕ) (a : Active) : Type 0 where
  pub body : c.instrument a.number ≡ Some a.body
  pub before_its_end : cycle < a.ends
  pub not_turned_off : a.note.world.ended ≡ false

-- The notes of a cycle: they are in order, no two have the same age, each was started before now and plays in
-- the cycle, and there are at most as many as allowed.
pub record AreInOrder (c : Composition) (cycle : ℕ) (m : Moment) : Type 0 where
  pub order : AllPairs StandsBefore m.active
  pub ages : AllPairs (λ (a b : Active). a.age ≢ b.age) m.active
  pub started : All (λ (a : Active). a.age < m.started) m.active
  pub playing : All (PlaysIn c cycle) m.active
  pub few : length m.active ≤ most_notes

-- the notes of a cycle, before they are performed
abbrev pub notes_in : Composition → ℕ → List Active
notes_in c n = (begins c n (moment_at c n)).active

-- the same note, before and after it was performed
pub record IsSameNote (a b : Active) : Type 0 where
  pub number : b.number ≡ a.number
  pub age : b.age ≡ a.age
  pub ends : b.ends ≡ a.ends
  pub fields : b.fields ≡ a.fields
  pub body : b.body ≡ a.body
