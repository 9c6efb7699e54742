-- The stop that ends each held note, found by counting: stops and held notes of one instrument are paired in
-- order.
use Rattle.std.specs.Prelude.{ℕ, ◌+◌, ◌-◌, ◌==◌, List, [], ◌∷◌, ◌++◌, Option, slice_get, if◌then◌else◌}
use Rattle.cs_score.specs.{declared.statement.ScoreWhat.ScoreWhat, declared.statement.ScoreStmt.ScoreStmt}
use Rattle.cs_score.specs.declared.statement.ScoreWhat.TheVariants.{Hold, Stop}

-- the number of held notes of an instrument that sound after one more turn: a held note adds one, and a stop
-- ends one if any sounds
abbrev pub sounding_after : ℕ → ScoreWhat → ℕ → ℕ
sounding_after n (Hold instr at given more) sounding = if n == instr then sounding + 1 else sounding
sounding_after n (Stop instr at) sounding = if n == instr then sounding - 1 else sounding
sounding_after n _ sounding = sounding

-- the number of held notes of an instrument that sound after these turns, latest first
unfoldable pub sounding : ℕ → List ScoreStmt → ℕ
sounding n [] = 0
sounding n (s ∷ earlier) = sounding_after n s.what (sounding n earlier)

-- the beat of a stop of instrument n, as a list
abbrev pub own_stop : ℕ → ScoreWhat → List ℕ
own_stop n (Stop instr at) = if n == instr then at ∷ [] else []
own_stop n _ = []

-- the beats of an instrument's stops among these turns
unfoldable pub stops_of : ℕ → List ScoreStmt → List ℕ
stops_of n [] = []
stops_of n (s ∷ later) = own_stop n s.what ++ stops_of n later

-- The beat of the stop that ends a held note. A stop ends the first note that sounds. If k other notes of the
-- instrument sound already, the next k stops end those notes, and the stop after them ends this one.
abbrev pub stop_after : ℕ → List ScoreStmt → List ScoreStmt → Option ℕ
stop_after n earlier later = slice_get (stops_of n later) (sounding n earlier)
