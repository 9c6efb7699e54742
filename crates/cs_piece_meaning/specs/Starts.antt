-- The starts of notes and the making of tables.
use Rattle.std.specs.Prelude.{ℕ, ℤ, pos, Bool, ◌||◌, ◌+◌, ◌==◌, zero, suc, List, [], ◌∷◌, length, nat_lt}
use Rattle.std.specs.Prelude.{slice_index_or, Option, Some, None, if◌then◌else◌}
use Rattle.std.specs.Option.{is_some}
use Rattle.cs_base.specs.Limits.{most_asks, most_notes}
use Rattle.cs_gen.specs.Points.{points_of}
use Rattle.cs_ir.specs.{Asks.ask_of, declared.ask.Ask.Ask}
use Rattle.cs_meaning.specs.{Core.Block, Initialising.init_block, Notes.Note, Notes.new_note, Notes.start}
use Rattle.cs_meaning.specs.Plain.{Cause, Plain, Table, find_table, fresh, plain, shared_with}
use Rattle.cs_sched.specs.{Times.due_of, declared.due.Due.Due, declared.pending.Added.Added}
use Rattle.cs_sched.specs.Waiting.{Waiting, answer_to, with_answer}
use Rattle.cs_tempo.specs.{declared.plot.Event.Event, declared.plot.EventAct.EventAct}
use Rattle.cs_piece_meaning.specs.Moments.{Composition, Active, Moment, clock_of, piece_with, placed}
use Rattle.cs_base.specs.declared.resource.Res.TheVariants as res
use Rattle.cs_sched.specs.declared.pending.Added.TheVariants as added
use Rattle.cs_tempo.specs.declared.plot.EventAct.TheVariants as act

-- one more start that started no note
abbrev pub in_vain : Moment → Moment
in_vain m = record m { not_started = m.not_started + 1 }

-- A note schedules another: one that isn't added counts as a start that started no note.
abbrev pub counted : Added → Moment → Moment
counted added.Kept m = m
counted _ m = in_vain m

-- a note schedules another, at p2 `time` in the cycle `now`
abbrev pub asked : Composition → ℕ → ℤ → Ask → Moment → Moment
asked c now time ask m =
    let answer = answer_to (clock_of c) now ask m.waiting.kept in
    counted answer (record m { waiting = with_answer answer (due_of (clock_of c) now time ask) m.waiting })

-- a note schedules several others, in order
abbrev pub all_asked : Composition → ℕ → ℤ → List (List ℤ) → Moment → Moment
all_asked c now time [] m = m
all_asked c now time (values ∷ rest) m = all_asked c now time rest (asked c now time (ask_of values) m)

-- A start: the number of an instrument, the number of cycles that the note lasts, and its p-fields.
pub record Start : Type 0 where
  pub number : ℤ
  pub cycles : ℕ
  pub fields : List ℤ

-- its p2, the time in seconds at which it begins
abbrev pub time_of : Start → ℤ
time_of s = slice_index_or s.fields 1 (pos 0)

-- A note whose initialisation refused nothing has started, and plays on if it lasts at least one cycle.
abbrev pub joined : ℕ → Start → Block → Note Plain → List Active → ℕ → List Active
joined now s body t active age =
    if s.cycles == 0 then active
    else placed (record {
      number = s.number;
      age = age;
      ends = now + s.cycles;
      fields = s.fields;
      body = body;
      note =
          t;
    }) active

-- a note that was initialised starts if nothing refused it; otherwise its start is only counted
abbrev pub entered : ℕ → Start → Block → Note Plain → Option Cause → Moment → Moment
entered now s body t None m =
    record m { active = joined now s body t m.active m.started; started = m.started + 1 }
entered now s body t (Some cause) m = in_vain m

-- A note has been initialised: the values that it wrote remain, and the notes that it scheduled are added,
-- whether it starts or not.
abbrev pub initialised : Composition → ℕ → Start → Block → Note Plain → Moment → Moment
initialised c now s body t m =
    entered now s body t t.world.cause
    (all_asked c now (time_of s) t.world.asks (record m { shared = t.world.shared }))

-- a note after its initialisation
abbrev pub begun : Composition → List ℕ → Start → Block → Moment → Note Plain
begun c made s body m = init_block (plain (piece_with c made s.fields)) start body (new_note (fresh m.shared))

-- There is room for a note that lasts no cycle, and for a note if fewer than 512 others play.
abbrev pub has_room : Start → Moment → Bool
has_room s m = s.cycles == 0 || nat_lt (length m.active) most_notes

-- a note is started, if its instrument exists and there is room
abbrev pub started : Composition → ℕ → Start → Option Block → Moment → Moment
started c now s None m = in_vain m
started c now s (Some body) m =
    if has_room s m then initialised c now s body (begun c m.made s body m) m else in_vain m

-- a note is started in a cycle
abbrev pub start_in : Composition → ℕ → Start → Moment → Moment
start_in c now s m = started c now s (c.instrument s.number) m

-- A table is made: if it is live, its points are written to the shared resources.
abbrev pub with_points : Option Table → ℕ → List ℤ → Moment → Moment
with_points None number points m = m
with_points (Some t) number points m =
    if is_some t.frozen then m
    else record m { shared = shared_with (res.Table number) (λ j. slice_index_or points j (pos 0)) m.shared }

-- a table is made with these points
abbrev pub made_table : Composition → ℕ → List ℤ → Moment → Moment
made_table c number points m =
    with_points (find_table c.tables (pos number)) number points (record m { made = number ∷ m.made })

-- an event of the plot is performed
abbrev pub act_done : Composition → ℕ → EventAct → Moment → Moment
act_done c now (act.Start instr cycles fields) m =
    start_in c now (record { number = pos instr; cycles = cycles; fields = fields }) m
act_done c now (act.Table number size gen args) m = made_table c number (points_of size gen args) m

-- the events of a list are performed, in order
abbrev pub all_done : Composition → List Event → Moment → Moment
all_done c [] m = m
all_done c (e ∷ rest) m = all_done c rest (act_done c e.cycle e.act m)

-- The notes that wait for a cycle are started in the order in which they were added, including notes that are
-- added meanwhile; at most as many as can be added in all.
abbrev pub taken : ℕ → List Due → Waiting → Waiting
taken now rest w = record w { due = λ c. if c == now then rest else w.due c }

-- the start of a scheduled note
abbrev pub start_of : Due → Start
start_of d = record { number = d.number; cycles = d.cycles; fields = d.fields }

-- the first of these waiting notes is started
abbrev pub first_started : Composition → ℕ → List Due → Moment → Moment
first_started c now [] m = m
first_started c now (d ∷ rest) m = start_in c now (start_of d) (record m { waiting = taken now rest m.waiting })

-- the moment m if no note waits, otherwise `next`
abbrev pub unless_none : List Due → Moment → Moment → Moment
unless_none [] m next = m
unless_none (d ∷ rest) m next = next

-- at most n notes that wait for a cycle are started
abbrev pub waited : ℕ → Composition → ℕ → Moment → Moment
waited zero c now m = m
waited (suc n) c now m =
    unless_none (m.waiting.due now) m (waited n c now (first_started c now (m.waiting.due now) m))

-- all notes that wait for a cycle are started
abbrev pub all_waited : Composition → ℕ → Moment → Moment
all_waited c now m = waited most_asks c now m
