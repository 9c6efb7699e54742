use Rattle.std.proofs.Common.{ℕ, ◌<◌, ◌≤◌, ◌-◌, length, get_or}
use Rattle.cs_tempo.proofs.active.ended_by.Given as goal

abbrev pub invariant-loop-ended : goal.invariant-loop-ended
invariant-loop-ended l =
    record { within : l.ended ≤ length l.ends; below : (i : ℕ) → i < l.ended → get_or l.ends i 0 ≤ l.cycle }

abbrev pub decreases-loop-ended : goal.decreases-loop-ended
decreases-loop-ended l = length l.ends - l.ended
