-- tablei: xndx, ifn reads a table at an index, on the straight line between two points. It has no state.
use Rattle.std.specs.Prelude.{ℕ, ◌-◌, ◌*◌, ◌/◌, ◌%◌, List, ℤ}
use Rattle.cs_base.specs.declared.resource.Rate.{Rate}
use Rattle.cs_gen.specs.Places.{from_zero_to}
use Rattle.cs_signal.specs.{Pace.Pace, History.last_of}
use Rattle.cs_ugen.specs.{Points.curve_len, Points.between_points, Table.index, Table.index_step, Table.points}

-- an index clamped to 0 .. len * 65536 - 1, in 65,536ths of a place
abbrev pub index_of : List ℤ → ℤ → ℕ
index_of curve ndx = from_zero_to (curve_len curve * 65536 - 1) ndx

-- a curve at an index, on the line between two points
abbrev pub line_of : List ℤ → ℤ → ℤ
line_of curve ndx = between_points curve (index_of curve ndx / 65536) (index_of curve ndx % 65536)

-- the curve at the index of the last step
abbrev pub curve_at_index : List ℤ → ℤ
curve_at_index x = line_of (points x) (index x)

-- the formula of the opcode
unfoldable pub tablei_of : Rate → Pace → List ℤ → List (List ℤ) → ℤ
tablei_of rate pace settled inputs = curve_at_index (last_of inputs)

-- the state is empty
abbrev pub tablei_start : Rate → Pace → List ℤ → Unit {0}
tablei_start rate pace settled = tt

-- one step: the result depends only on its inputs
abbrev pub tablei_step : Unit {0} → List ℤ → Unit {0} × ℤ
tablei_step = index_step line_of

-- the empty state fits any steps
abbrev pub TableiStands : Unit {0} → Rate → Pace → List ℤ → List (List ℤ) → Type 0
TableiStands t rate pace settled inputs = Unit {0}
