-- The sections of a score: their tempos, and their lengths in control cycles.
use Rattle.std.specs.Prelude.{ℕ, ◌+◌, ◌==◌, max, map, Bool, true, false, List, [], ◌∷◌, if◌then◌else◌}
use Rattle.cs_base.specs.declared.head.Head.{Head}
use Rattle.cs_score.specs.declared.statement.TempoPoint.{TempoPoint}
use Rattle.cs_score.specs.{declared.statement.ScoreWhat.ScoreWhat, declared.statement.ScoreStmt.ScoreStmt}
use Rattle.cs_score.specs.declared.statement.ScoreWhat.TheVariants.{Note, Hold, Stop, Table, Extend, Tempo, Section}
use Rattle.cs_time.specs.Time.{time_of, cycle_of}

-- whether a statement ends its section
abbrev pub ends_section : ScoreWhat → Bool
ends_section Section = true
ends_section _ = false

-- a statement added at the beginning of the first section
abbrev pub at_front : ScoreStmt → List (List ScoreStmt) → List (List ScoreStmt)
at_front s [] = (s ∷ []) ∷ []
at_front s (first ∷ others) = (s ∷ first) ∷ others

-- the sections of a score: the statements up to each `s`, and the statements after the last `s`
unfoldable pub sections_of : List ScoreStmt → List (List ScoreStmt)
sections_of [] = [] ∷ []
sections_of (s ∷ later) =
    if ends_section s.what then [] ∷ sections_of later else at_front s (sections_of later)

-- the points of a tempo statement; any other statement has none
abbrev pub own_points : ScoreWhat → List TempoPoint
own_points (Tempo points) = points
own_points _ = []

-- the first list if it isn't empty, otherwise the second
abbrev pub or_else : List TempoPoint → List TempoPoint → List TempoPoint
or_else [] others = others
or_else (p ∷ later) others = p ∷ later

-- the tempo of a section: the points of its last tempo statement, or no points
unfoldable pub tempo_of : List ScoreStmt → List TempoPoint
tempo_of [] = []
tempo_of (s ∷ later) = or_else (tempo_of later) (own_points s.what)

-- the cycle of a beat, from the start of its section
unfoldable pub cycle_at : Head → List TempoPoint → ℕ → ℕ
cycle_at head tempo beat = cycle_of (time_of tempo beat) head.sr head.ksmps

-- the cycle in which a note ends whose length is 0 or more; if its length is above 0, it lasts at least one
-- cycle
abbrev pub end_of : Head → List TempoPoint → ℕ → ℕ → ℕ
end_of head tempo at len =
    if len == 0
    then cycle_at head tempo at
    else max (cycle_at head tempo (at + len)) (cycle_at head tempo at + 1)

-- the smallest number of cycles that a section with this statement can last
abbrev pub reach_of : Head → List TempoPoint → ScoreWhat → ℕ
reach_of head tempo (Note instr at len more) = end_of head tempo at len
reach_of head tempo (Hold instr at given more) = cycle_at head tempo at + 1
reach_of head tempo (Stop instr at) = cycle_at head tempo at
reach_of head tempo (Table number at size gen args) = cycle_at head tempo at
reach_of head tempo (Extend at) = cycle_at head tempo at
reach_of head tempo (Tempo points) = 0
reach_of head tempo Section = 0

-- the greatest number in a list, or 0 if the list is empty
abbrev pub greatest : List ℕ → ℕ
greatest [] = 0
greatest (n ∷ later) = max n (greatest later)

-- the length of a section, in cycles
unfoldable pub length_of : Head → List ScoreStmt → ℕ
length_of head section = greatest (map (λ s. reach_of head (tempo_of section) s.what) section)
