-- The keys by which a section's turns are sorted.
use Rattle.std.specs.Prelude.{ℕ, ◌+◌, List, [], ◌∷◌, ◌++◌, if◌then◌else◌}
use Rattle.std.specs.Ordering.{nat_cmp, int_cmp, ordering_then, is_lt}
use Rattle.std.specs.declared.cmp.Ordering.{Ordering}
use Rattle.cs_score.specs.{declared.statement.ScoreWhat.ScoreWhat, declared.statement.ScoreStmt.ScoreStmt}
use Rattle.cs_tempo.specs.{declared.order.SortKey.SortKey, Order.has_turn, Order.beat_of, Order.p1_of, Order.p3_of}

-- the sort key of the statement at an index of its section
abbrev pub turn_of : ℕ → ScoreWhat → SortKey
turn_of index what = record { at = beat_of what; p1 = p1_of what; p3 = p3_of what; index = index }

-- the sort key of a statement that has a turn, as a list
abbrev pub own_turn : ℕ → ScoreWhat → List SortKey
own_turn index what = if has_turn what then turn_of index what ∷ [] else []

-- the sort keys of statements, the first of which is at an index
unfoldable pub turns_from : ℕ → List ScoreStmt → List SortKey
turns_from index [] = []
turns_from index (s ∷ later) = own_turn index s.what ++ turns_from (index + 1) later

-- turns are ordered by beat, then p1, p3 and index
abbrev pub turn_order : SortKey → SortKey → Ordering
turn_order t u =
    ordering_then (nat_cmp t.at u.at) (ordering_then (int_cmp t.p1 u.p1)
    (ordering_then (int_cmp t.p3 u.p3) (nat_cmp t.index u.index)))

-- insertion into a sorted list: the item is put before the first one that isn't less than it
abbrev pub inserted : {X : Type 0} (R : X → X → Ordering) → X → List X → List X
inserted R x [] = x ∷ []
inserted R x (y ∷ ys) = if is_lt (R y x) then y ∷ inserted R x ys else x ∷ y ∷ ys

-- a list sorted by insertion
abbrev pub sorted : {X : Type 0} (R : X → X → Ordering) → List X → List X
sorted R [] = []
sorted R (x ∷ xs) = inserted R x (sorted R xs)
