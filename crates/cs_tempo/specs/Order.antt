-- The order in which the tables, notes and stops of a section take effect.
use Rattle.std.specs.Prelude.{ℕ, Bool, true, false, List, [], ◌∷◌, ℤ, pos, neg_ℤ, if◌then◌else◌}
use Rattle.std.specs.Ordering.{nat_cmp, int_cmp, ordering_then, is_lt}
use Rattle.std.specs.declared.cmp.Ordering.{Ordering}
use Rattle.cs_score.specs.{declared.statement.ScoreWhat.ScoreWhat, declared.statement.ScoreStmt.ScoreStmt}
use Rattle.cs_score.specs.declared.statement.ScoreWhat.TheVariants.{Note, Hold, Stop, Table, Extend, Tempo, Section}

-- whether a statement has a turn in the order
abbrev pub has_turn : ScoreWhat → Bool
has_turn (Extend at) = false
has_turn (Tempo points) = false
has_turn Section = false
has_turn _ = true

-- the beat of a turn
abbrev pub beat_of : ScoreWhat → ℕ
beat_of (Note instr at len more) = at
beat_of (Hold instr at given more) = at
beat_of (Stop instr at) = at
beat_of (Table number at size gen args) = at
beat_of _ = 0

-- the p1 by which a turn is sorted: the p1 of a stop is negative, and a table comes before every p1
abbrev pub p1_of : ScoreWhat → ℤ
p1_of (Note instr at len more) = pos instr
p1_of (Hold instr at given more) = pos instr
p1_of (Stop instr at) = neg_ℤ (pos instr)
p1_of _ = neg_ℤ (pos 32768)

-- the p3 by which a turn is sorted: in millionths of a beat; for a held note the number as written
abbrev pub p3_of : ScoreWhat → ℤ
p3_of (Note instr at len more) = pos len
p3_of (Hold instr at given more) = given
p3_of _ = pos 0

-- the order of two turns: by beat, then by p1, then by p3
abbrev pub order_of : ScoreWhat → ScoreWhat → Ordering
order_of s u =
    ordering_then (nat_cmp (beat_of s) (beat_of u))
    (ordering_then (int_cmp (p1_of s) (p1_of u)) (int_cmp (p3_of s) (p3_of u)))

-- a statement inserted after the turns that come before its own; it stays before equal ones
unfoldable pub put : ScoreStmt → List ScoreStmt → List ScoreStmt
put s [] = s ∷ []
put s (u ∷ us) = if is_lt (order_of u.what s.what) then u ∷ put s us else s ∷ u ∷ us

-- the statements of a section that have a turn, in the order of their turns; equal ones keep the order of the
-- text
unfoldable pub in_order : List ScoreStmt → List ScoreStmt
in_order [] = []
in_order (s ∷ later) = if has_turn s.what then put s (in_order later) else in_order later
