-- The start, the duration and the p-fields of a note that another note schedules.
use Rattle.std.specs.Prelude.{ℕ, ℤ, pos, ◌+◌, ◌-◌, ◌*◌, ◌/◌, ◌^◌, ◌*ℤ◌, ◌∷◌, List, max, min, unsigned_abs}
use Rattle.std.specs.{Prelude.if◌then◌else◌, Int.int_max, Ordering.int_eq}
use Rattle.cs_base.specs.{Numbers.clamp, Numbers.sum_of, declared.head.Head.Head}
use Rattle.cs_ir.specs.declared.ask.Ask.{Ask}
use Rattle.cs_time.specs.Time.{cycle_of}
use Rattle.cs_sched.specs.declared.due.Due.{Due}

-- the time scale of a piece: frames per second, frames per control cycle, and the number of its cycles
pub record Clock : Type 0 where
  pub sr : ℕ
  pub ksmps : ℕ
  pub cycles : ℕ

-- the time scale of a piece with this header and number of cycles
abbrev pub clock_of : Head → ℕ → Clock
clock_of head cycles = record { sr = head.sr; ksmps = head.ksmps; cycles = cycles }

-- a time from now on in 65,536ths of a second; a negative time counts as 0
abbrev pub none_or : ℤ → ℤ
none_or seconds = int_max seconds (pos 0)

-- a time from now on as a count of 65,536ths of a second
abbrev pub from_now : ℤ → ℕ
from_now seconds = unsigned_abs (none_or seconds)

-- 65,536ths of a second, converted to nanoseconds and rounded down
abbrev pub nanoseconds : ℕ → ℕ
nanoseconds raw = raw * 10 ^ 9 / 65536

-- the cycle that is reached this many 65,536ths of a second after the start of a cycle
abbrev pub cycle_after : Clock → ℕ → ℕ → ℕ
cycle_after clock now raw = now + cycle_of (nanoseconds raw) clock.sr clock.ksmps

-- the cycle in which a note begins that is scheduled in the cycle `now`
abbrev pub begins_in : Clock → ℕ → Ask → ℕ
begins_in clock now ask = cycle_after clock now (from_now ask.when)

-- the cycle in which a scheduled note has ended, later than the one in which it begins
abbrev pub ends_in : Clock → ℕ → Ask → ℕ
ends_in clock now ask = max (cycle_after clock now (from_now ask.when + from_now ask.dur)) (begins_in clock now ask + 1)

-- the number of cycles that it lasts within the piece; 0 if its duration is 0
abbrev pub lasts : Clock → ℕ → Ask → ℕ
lasts clock now ask =
    if int_eq ask.dur (pos 0) then 0 else min (ends_in clock now ask) clock.cycles - begins_in clock now ask

-- its p-fields: its instrument, its start counted from the p2 of the scheduling note, its duration, and its
-- further fields
abbrev pub fields_of : ℤ → Ask → List ℤ
fields_of time ask = clamp (ask.number *ℤ pos 65536) ∷ sum_of time (none_or ask.when) ∷ ask.dur ∷ ask.more

-- the note that a note with this p2 schedules in a cycle
abbrev pub due_of : Clock → ℕ → ℤ → Ask → Due
due_of clock now time ask = record {
  cycle = begins_in clock now ask;
  cycles = lasts clock now ask;
  number = ask.number;
  fields = fields_of time ask;
}
