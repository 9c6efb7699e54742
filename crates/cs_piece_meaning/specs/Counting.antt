-- The number of starts: events that start a note, and notes that notes schedule as they are initialised.
use Rattle.std.specs.Prelude.{ℕ, zero, suc, pos, ◌+◌, Bool, true, false, List, [], ◌∷◌, length, map, sum, Option, Some}
use Rattle.std.specs.{Prelude.None, Prelude.if◌then◌else◌, List.count_by, List.range_with_len}
use Rattle.cs_base.specs.Limits.{most_asks}
use Rattle.cs_meaning.specs.Core.{Block}
use Rattle.cs_sched.specs.declared.due.Due.{Due}
use Rattle.cs_tempo.specs.{declared.plot.Event.Event, declared.plot.EventAct.EventAct}
use Rattle.cs_piece_meaning.specs.Course.{events_in, moment_at, still}
use Rattle.cs_piece_meaning.specs.Moments.{Composition, Moment}
use Rattle.cs_piece_meaning.specs.Starts.{Start, act_done, all_done, begun, first_started, has_room, start_of, taken}
use Rattle.cs_tempo.specs.declared.plot.EventAct.TheVariants as act

-- whether an event starts a note, rather than making a table
abbrev pub starts_note : EventAct → Bool
starts_note (act.Start instr cycles fields) = true
starts_note (act.Table number size gen args) = false

-- whether an event of the plot starts a note
abbrev pub is_start : Event → Bool
is_start e = starts_note e.act

-- the number of notes that a start schedules: as many as its initialisation does; 0 if the instrument doesn't
-- exist
abbrev pub asks_of : Composition → Start → Option Block → Moment → ℕ
asks_of c s None m = 0
asks_of c s (Some body) m = if has_room s m then length (begun c m.made s body m).world.asks else 0

-- the number of notes that an event schedules
abbrev pub asks_of_act : Composition → EventAct → Moment → ℕ
asks_of_act c (act.Start instr cycles fields) m =
    asks_of c (record { number = pos instr; cycles = cycles; fields = fields }) (c.instrument (pos instr)) m
asks_of_act c (act.Table number size gen args) m = 0

-- the number of notes that events schedule; each event is performed in the moment that the events before it
-- leave
abbrev pub asks_of_events : Composition → List Event → Moment → ℕ
asks_of_events c [] m = 0
asks_of_events c (e ∷ rest) m = asks_of_act c e.act m + asks_of_events c rest (act_done c e.cycle e.act m)

-- the number of notes scheduled by notes that waited for a cycle; the first of them is started until none is
-- left
abbrev pub asks_of_first : Composition → ℕ → List Due → Moment → ℕ
asks_of_first c now [] m = 0
asks_of_first c now (d ∷ rest) m =
    asks_of c (start_of d) (c.instrument d.number) (record m { waiting = taken now rest m.waiting })

-- the number n, or 0 if no note waits
abbrev pub none_without : List Due → ℕ → ℕ
none_without [] n = 0
none_without (d ∷ rest) n = n

-- the number of notes scheduled by at most n notes that wait for a cycle
abbrev pub asks_of_waiting : ℕ → Composition → ℕ → Moment → ℕ
asks_of_waiting zero c now m = 0
asks_of_waiting (suc n) c now m =
    none_without (m.waiting.due now)
    (asks_of_first c now (m.waiting.due now) m + asks_of_waiting n c now (first_started c now (m.waiting.due now) m))

-- The starts of a cycle: by its events, and by the notes scheduled in it.
unfoldable pub starts_from : Composition → ℕ → Moment → ℕ
starts_from c now m =
    count_by is_start (events_in c now) + asks_of_events c (events_in c now) m
    + asks_of_waiting most_asks c now (all_done c (events_in c now) m)

-- the starts of cycle n
abbrev pub starts_in : Composition → ℕ → ℕ
starts_in c n = starts_from c n (still n (moment_at c n))

-- the number of starts in the first n cycles
abbrev pub starts_before : Composition → ℕ → ℕ
starts_before c n = sum (map (starts_in c) (range_with_len 0 n))
