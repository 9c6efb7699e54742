-- table: xndx, ifn reads one point of a table by its place. It has no state.
use Rattle.std.specs.Prelude.{ℕ, List, drop, ℤ}
use Rattle.cs_base.specs.declared.resource.Rate.{Rate}
use Rattle.cs_gen.specs.Places.{place_of_index}
use Rattle.cs_signal.specs.{Operands.argument, Pace.Pace, History.last_of}
use Rattle.cs_ugen.specs.Points.{curve_len}

-- the index of a step, its first argument
abbrev pub index : List ℤ → ℤ
index x = argument x 0

-- the points of the table in a step
abbrev pub points : List ℤ → List ℤ
points x = drop 1 x

-- the place of an index in a curve: the index rounded down, then clamped to 0 .. len - 1
abbrev pub place_of : List ℤ → ℤ → ℕ
place_of curve ndx = place_of_index (curve_len curve) ndx

-- the point of a curve at an index
abbrev pub point_of : List ℤ → ℤ → ℤ
point_of curve ndx = argument curve (place_of curve ndx)

-- the point at the index of the last step
abbrev pub point_at_index : List ℤ → ℤ
point_at_index x = point_of (points x) (index x)

-- the formula of the opcode
unfoldable pub table_of : Rate → Pace → List ℤ → List (List ℤ) → ℤ
table_of rate pace settled inputs = point_at_index (last_of inputs)

-- the state is empty
abbrev pub table_start : Rate → Pace → List ℤ → Unit {0}
table_start rate pace settled = tt

-- one step of a table, for a given way of reading a curve at an index
abbrev pub index_step : (List ℤ → ℤ → ℤ) → Unit {0} → List ℤ → Unit {0} × ℤ
index_step read t x = (tt, read (points x) (index x))

-- one step: the result depends only on its inputs
abbrev pub table_step : Unit {0} → List ℤ → Unit {0} × ℤ
table_step = index_step point_of

-- the empty state fits any steps
abbrev pub TableStands : Unit {0} → Rate → Pace → List ℤ → List (List ℤ) → Type 0
TableStands t rate pace settled inputs = Unit {0}
