-- The limits on a score in the order in which they are checked, and the first limit that is exceeded.
use Rattle.std.specs.Prelude.{ℕ, ◌+◌, ◌*◌, ◌&&◌, Bool, nat_lt, nat_le, count_by, map, sum, List, [], Option, Some, None}
use Rattle.std.specs.{Prelude.if◌then◌else◌, Option.option_or}
use Rattle.cs_base.specs.Limits.{most_notes, most_wav_bytes}
use Rattle.cs_base.specs.{declared.head.Head.Head, declared.limit.LimitHit.LimitHit}
use Rattle.cs_score.specs.{Limits.first_at, Limits.limit_of_score, declared.statement.ScoreStmt.ScoreStmt}
use Rattle.cs_tempo.specs.{declared.plot.Event.Event, declared.plot.EventAct.EventAct, Plot.events_from}
use Rattle.cs_tempo.specs.Sections.{sections_of, length_of}
use Rattle.cs_base.specs.declared.limit.Limit.TheVariants as limit
use Rattle.cs_tempo.specs.declared.plot.EventAct.TheVariants as act

-- the number of cycles that an event's note lasts, or 0 for a table
abbrev pub cycles_in : EventAct → ℕ
cycles_in (act.Start instr cycles fields) = cycles
cycles_in (act.Table number size gen args) = 0

-- whether an event's note is active in a cycle: it starts in this cycle or before, and ends after it
abbrev pub is_active : ℕ → Event → Bool
is_active cycle e = nat_le e.cycle cycle && nat_lt cycle (e.cycle + cycles_in e.act)

-- whether this number of cycles has more bytes of samples than allowed, at two bytes a sample
abbrev pub passes_bytes : Head → ℕ → Bool
passes_bytes head cycles = nat_lt most_wav_bytes (cycles * head.ksmps * head.nchnls * 2)

-- whether more notes are active in the cycle of this start than allowed, among the events up to it
abbrev pub passes_notes : List Event → Event → Bool
passes_notes upto e = nat_lt most_notes (count_by (is_active e.cycle) upto)

-- the limit hit by the bytes of the sound file, which has no line
abbrev pub bytes_hit : Option LimitHit
bytes_hit = Some (record { limit = limit.WavBytes; line = 0 })

-- the limit hit by notes, at the line of a start
abbrev pub at_event : Option Event → Option LimitHit
at_event None = None
at_event (Some e) = Some (record { limit = limit.Notes; line = e.line })

-- the first limit that some sections exceed: the limit on bytes, which has no line; otherwise the limit on
-- notes, at the start that exceeds it
abbrev pub limit_of_sections : Head → List (List ScoreStmt) → Option LimitHit
limit_of_sections head sections =
    option_or (if passes_bytes head (sum (map (length_of head) sections)) then bytes_hit else None)
    (at_event (first_at passes_notes [] (events_from head 0 sections)))

-- the first limit that a score exceeds: first the limits on table numbers and on statements, which reading
-- finds, then the limits of its sections
abbrev pub limit_of : Head → List ScoreStmt → Option LimitHit
limit_of head score = option_or (limit_of_score score) (limit_of_sections head (sections_of score))
