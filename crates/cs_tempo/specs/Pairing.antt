-- The stop that ends each held note: a stop ends the first held note of its instrument that sounds.
use Rattle.std.specs.Prelude.{ℕ, ◌==◌, ◌&&◌, Bool, false, List, [], ◌∷◌, ◌++◌, length, drop, Option, Some, None}
use Rattle.std.specs.Prelude.{if◌then◌else◌}
use Rattle.cs_score.specs.{declared.statement.ScoreWhat.ScoreWhat, declared.statement.ScoreStmt.ScoreStmt}
use Rattle.cs_score.specs.declared.statement.ScoreWhat.TheVariants.{Hold, Stop}

-- the held notes of an instrument that sound after one more turn, as indices in the order
abbrev pub held_after : ℕ → ℕ → ScoreWhat → List ℕ → List ℕ
held_after n index (Hold instr at given more) held = if n == instr then held ++ index ∷ [] else held
held_after n index (Stop instr at) held = if n == instr then drop 1 held else held
held_after n index _ held = held

-- the held notes that sound after these turns, latest first; each stop has ended the first one that sounded
unfoldable pub held : ℕ → List ScoreStmt → List ℕ
held n [] = []
held n (s ∷ earlier) = held_after n (length earlier) s.what (held n earlier)

-- whether an index is the first in a list
abbrev pub is_first : ℕ → List ℕ → Bool
is_first index [] = false
is_first index (p ∷ later) = index == p

-- the beat of a stop that ends the held note at an index, if this note is the first that sounds
abbrev pub ends_here : ℕ → ℕ → List ℕ → ScoreWhat → Option ℕ
ends_here n index sounds (Stop instr at) = if n == instr && is_first index sounds then Some at else None
ends_here n index sounds _ = None

-- the first beat if there is one, otherwise the second
abbrev pub or_later : Option ℕ → Option ℕ → Option ℕ
or_later None other = other
or_later (Some beat) other = Some beat

-- the beat of the first stop among the turns `later` that ends the held note at an index
unfoldable pub ending_stop : ℕ → ℕ → List ScoreStmt → List ScoreStmt → Option ℕ
ending_stop n index earlier [] = None
ending_stop n index earlier (s ∷ later) =
    or_later (ends_here n index (held n earlier) s.what) (ending_stop n index (s ∷ earlier) later)

-- the beat of the stop that ends the turn at this index; only a held note is ended by a stop
abbrev pub ended_by : ScoreWhat → ℕ → List ScoreStmt → List ScoreStmt → Option ℕ
ended_by (Hold instr at given more) index so_far later = ending_stop instr index so_far later
ended_by _ index so_far later = None

-- the beat of the stop that ends a turn; the turns before it are given latest first, then the turns after it
abbrev pub stop_of : List ScoreStmt → List ScoreStmt → ScoreStmt → Option ℕ
stop_of earlier later s = ended_by s.what (length earlier) (s ∷ earlier) later
