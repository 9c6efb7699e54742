-- The plot of a piece: the notes started and the tables made in each control cycle, and the piece's length.
use Rattle.std.specs.Prelude.{ℕ, ◌+◌, ◌-◌, ◌*◌, max, map, sum, List, [], ◌∷◌, ◌++◌, Option, Some, None, ℤ, pos}
use Rattle.cs_base.specs.declared.head.Head.{Head}
use Rattle.cs_score.specs.declared.statement.TempoPoint.{TempoPoint}
use Rattle.cs_score.specs.{declared.statement.ScoreWhat.ScoreWhat, declared.statement.ScoreStmt.ScoreStmt}
use Rattle.cs_score.specs.declared.statement.ScoreWhat.TheVariants.{Note, Hold, Table}
use Rattle.cs_tempo.specs.{declared.plot.Event.Event, declared.plot.EventAct.EventAct, declared.plot.Plot.Plot}
use Rattle.cs_tempo.specs.{Order.beat_of, Order.in_order, Pairing.stop_of}
use Rattle.cs_time.specs.Time.{time_of, seconds_of}
use Rattle.cs_tempo.specs.Sections.{tempo_of, cycle_at, end_of, length_of, sections_of}
use Rattle.cs_tempo.specs.declared.plot.EventAct.TheVariants as act

-- a note's fields: p1, p2 in seconds from the start of its section, p3, and the fields from p4 on
abbrev pub fields_of : List TempoPoint → ℕ → ℕ → ℤ → List ℤ → List ℤ
fields_of tempo instr at p3 more =
    pos (instr * 65536) ∷ pos (seconds_of (time_of tempo at)) ∷ p3 ∷ more

-- the p3 of a note in seconds: the time from its start to its end
abbrev pub length_in_seconds : List TempoPoint → ℕ → ℕ → ℤ
length_in_seconds tempo at len = pos (seconds_of (time_of tempo (at + len) - time_of tempo at))

-- the setting of a section: the piece's head, the section's tempo, the cycle in which it begins, and its
-- length in cycles
pub record SectionSetting : Type 0 where
  pub head : Head
  pub tempo : List TempoPoint
  pub offset : ℕ
  pub cycles : ℕ

-- the end of a held note: the cycle of the stop that ends it, otherwise the section's end; it lasts at least
-- one cycle
abbrev pub held_until : SectionSetting → ℕ → Option ℕ → ℕ
held_until set at (Some stop) =
    max (cycle_at set.head set.tempo stop) (cycle_at set.head set.tempo at + 1)
held_until set at None = max set.cycles (cycle_at set.head set.tempo at + 1)

-- the action of a turn, if `stop` is the beat of the stop that ends it; a stop itself has no action
unfoldable pub acts_of : SectionSetting → Option ℕ → ScoreWhat → List EventAct
acts_of set stop (Note instr at len more) =
    act.Start instr (end_of set.head set.tempo at len - cycle_at set.head set.tempo at)
    (fields_of set.tempo instr at (length_in_seconds set.tempo at len) more) ∷ []
acts_of set stop (Hold instr at given more) =
    act.Start instr (held_until set at stop - cycle_at set.head set.tempo at)
    (fields_of set.tempo instr at given more) ∷ []
acts_of set stop (Table number at size gen args) = act.Table number size gen args ∷ []
acts_of set stop _ = []

-- the events of a turn, at the cycle of its beat: one for a note or a table, none for a stop
abbrev pub events_at : SectionSetting → Option ℕ → ScoreStmt → List Event
events_at set stop s =
    let at : ℕ = set.offset + cycle_at set.head set.tempo (beat_of s.what) in
    map (λ what. record { cycle = at; line = s.line; act = what }) (acts_of set stop s.what)

-- the events of the turns in the second list, which follow the turns in the first list, latest first
unfoldable pub events_along : SectionSetting → List ScoreStmt → List ScoreStmt → List Event
events_along set earlier [] = []
events_along set earlier (s ∷ later) =
    events_at set (stop_of earlier later s) s ++ events_along set (s ∷ earlier) later

-- the setting of a section that begins at cycle `offset`
abbrev pub setting_of : Head → ℕ → List ScoreStmt → SectionSetting
setting_of head offset section =
    record {
      head = head;
      tempo = tempo_of section;
      offset = offset;
      cycles = length_of head section;
    }

-- the events of sections; the first begins at cycle `offset`, and each further one at the end of the one
-- before
unfoldable pub events_from : Head → ℕ → List (List ScoreStmt) → List Event
events_from head offset [] = []
events_from head offset (section ∷ others) =
    events_along (setting_of head offset section) [] (in_order section)
    ++ events_from head (offset + length_of head section) others

-- the plot of sections that follow one another from cycle 0 on
abbrev pub plot_of_sections : Head → List (List ScoreStmt) → Plot
plot_of_sections head sections =
    record { events = events_from head 0 sections; cycles = sum (map (length_of head) sections) }

-- the plot of a score
abbrev pub plot_of : Head → List ScoreStmt → Plot
plot_of head score = plot_of_sections head (sections_of score)
