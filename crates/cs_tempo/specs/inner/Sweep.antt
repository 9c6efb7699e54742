-- The pass through the events that counts active notes.
use Rattle.std.specs.Prelude.{ℕ, ◌+◌, ◌<◌, ◌≤◌, ◌==◌, Bool, not, List, [], ◌∷◌, ◌++◌, length, slice_index}
use Rattle.std.specs.Prelude.{if◌then◌else◌}
use Rattle.cs_tempo.specs.{declared.plot.Event.Event, Limits.cycles_in}

-- whether an event starts a note that lasts at least one cycle
abbrev pub is_note : Event → Bool
is_note e = not (cycles_in e.act == 0)

-- the cycle in which an event's note ends, as a list
abbrev pub own_end : Event → List ℕ
own_end e = if is_note e then (e.cycle + cycles_in e.act) ∷ [] else []

-- the cycles in which the notes of these events end
unfoldable pub ends_of : List Event → List ℕ
ends_of [] = []
ends_of (e ∷ later) = own_end e ++ ends_of later

-- exactly the first j of these ends, which are in order, are at or before a cycle
pub record HaveEnded (ends : List ℕ) (cycle j : ℕ) : Type 0 where
  pub within : j ≤ length ends
  pub below : (i : ℕ) → i < j → slice_index ends i ≤ cycle
  pub above : j < length ends → cycle < slice_index ends j
