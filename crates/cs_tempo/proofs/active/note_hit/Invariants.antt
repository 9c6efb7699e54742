use Rattle.std.proofs.Common.{◌≡◌, ℕ, ◌<◌, ◌≤◌, take, drop, [], length, get_or}
use Rattle.std.specs.List.{count_by}
use Rattle.cs_tempo.specs.{declared.plot.Event.Event, Limits.passes_notes, inner.Sweep.is_note}
use Rattle.cs_score.specs.Limits.{first_at}
use Rattle.cs_tempo.proofs.active.note_hit.Given as goal

abbrev pub invariant-loop-event : goal.invariant-loop-event
invariant-loop-event l = record {
  started : l.started ≡ count_by is_note (take l.event-index l.events);
  within : l.ended ≤ length l.ends.items;
  below : (i j : ℕ) (d : Event) → i < l.ended → l.event-index ≤ j → j < length l.events
      → get_or l.ends.items i 0 ≤ (get_or l.events j d).cycle;
  first : first_at passes_notes (take l.event-index l.events) (drop l.event-index l.events) ≡ first_at passes_notes []
      l.events;
}
