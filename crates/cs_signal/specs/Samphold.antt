-- samphold: its input while its gate is open, and the last value while it is closed.
use Rattle.std.specs.Prelude.{Bool, ◌≡◌, List, find, reverse, ℤ, pos, int_lt, Option, Some, None, if◌then◌else◌}
use Rattle.cs_base.specs.declared.resource.Rate.{Rate}
use Rattle.cs_signal.specs.{Operands.argument, Pace.Pace}

-- the gate is open: the second input is above 0
abbrev pub is_open : List ℤ → Bool
is_open inputs = int_lt (pos 0) (argument inputs 1)

-- the first input of a step, or 0 if there is no step
abbrev pub value_or_zero : Option (List ℤ) → ℤ
value_or_zero None = pos 0
value_or_zero (Some inputs) = argument inputs 0

-- the input of the latest step with an open gate; 0 before the first such step
abbrev pub samphold_of : Rate → Pace → List ℤ → List (List ℤ) → ℤ
samphold_of rate pace init steps = value_or_zero (find is_open (reverse steps))

-- the state of the unit is its last result
abbrev pub samphold_start : Rate → Pace → List ℤ → ℤ
samphold_start rate pace init = pos 0

-- one step: the state afterwards, and the result
abbrev pub samphold_step : ℤ → List ℤ → ℤ × ℤ
samphold_step last inputs =
    let result = if is_open inputs then argument inputs 0 else last in
    (result, result)

-- the state of a unit that has performed these steps
abbrev pub SampholdStands : ℤ → Rate → Pace → List ℤ → List (List ℤ) → Type 0
SampholdStands last rate pace init steps = last ≡ samphold_of rate pace init steps
